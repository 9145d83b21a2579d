use Rattle.std.proofs.Common.{◌≡◌, ◌⊎◌, ◌≤◌, ◌∷◌, [], ◌++◌, ◌+◌, ◌-◌, ◌*◌, ℕ, List, map, ap, sym, subst, ◌∙◌, ◌<◌, ⊎_elim, arith}
use Rattle.std.specs.Prelude.{All}
use Rattle.std.specs.List.{range_with_len}
use Rattle.std.proofs.lemmas.List.{map-append}
use Rattle.std.proofs.lemmas.List.Elements.{All-push}
use Rattle.std.proofs.lemmas.List.FromFn.{map-range_with_len_more}
use Rattle.pattern_index.specs.Groups.{GroupModel}
use Rattle.batch_lines.specs.Defaults.{default_tiles}
use Rattle.batch_lines.proofs.OptionLawLemmas.{defaults_apart, groups_count, groups_few}
use Rattle.batch_lines.proofs.defaults.default_groups.Goals as goal

pub groups-preserved : goal.groups-preserved
groups-preserved c =
    let old = c.groups.groups.items in
    let group = c.rising_group.result in
    let size = c.default_size-size.result in
    let cells = c.cells-cells.result in
    let items = c.in_ok-push.ensures.items in
    let of_grid : group.grid ≡ c.args.shape = ap (λ (g : GroupModel). g.grid) c.rising_group.ensures in
    let tiles : group.tiles ≡ default_tiles cells size c.groups.place = ap (λ (g : GroupModel). g.tiles) c.rising_group.ensures ∙ ap (range_with_len (1 + c.groups.place * size)) c.min.ensures in
    record {
      of_grid = subst (λ (gs : List GroupModel). All (λ g. g.grid ≡ c.args.shape) gs) (sym items) (All-push (λ (g : GroupModel). g.grid ≡ c.args.shape) old group c.groups.invariant.of_grid of_grid);
      tiles =
          ap (map (λ (g : GroupModel). g.tiles)) items ∙ map-append (λ (g : GroupModel). g.tiles) old (group ∷ [])
          ∙ (λ i. c.groups.invariant.tiles i ++ tiles i ∷ []) ∙ sym (map-range_with_len_more (default_tiles cells size) 0 c.groups.place c.groups.place (omega arith));
    }

positive : {size : ℕ} → (size ≡ 2) ⊎ (size ≡ 4) ⊎ (size ≡ 5) → 0 < size
positive cases = ⊎_elim (λ e. omega (arith, e)) (λ rest. ⊎_elim (λ e. omega (arith, e)) (λ e. omega (arith, e)) rest) cases

pub unwrap-requires : goal.unwrap-requires
unwrap-requires c =
    let groups = c.groups.groups.items in
    let size = c.default_size-size.result in
    let cells = c.cells-cells.result in
    let count = groups_count groups cells size c.groups.place c.groups.invariant.tiles in
    let high : c.div_ceil-place-end.result ≤ 24 = subst (λ (n : ℕ). n ≤ 24) (sym c.div_ceil-place-end.ensures) (groups_few (cells - 1) size (positive c.default_size-size.ensures.cases) (omega (arith, c.cells-cells.ensures.high))) in
    c.new.ensures.accepted.1 (omega (arith, count, c.groups.auto.place-end, high), defaults_apart groups cells size c.groups.place c.groups.invariant.tiles)
