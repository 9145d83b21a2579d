use Rattle.std.proofs.Common.{◌≡◌, ◌+◌, ◌++◌, ◌∷◌, [], List, ℕ, length, sym, ◌∙◌, ap, subst, arith}
use Rattle.std.specs.Prelude.{All}
use Rattle.std.specs.List.{flat_map}
use Rattle.std.proofs.KnownBytes.{Consumes-trans}
use Rattle.std.proofs.lemmas.List.{length_push}
use Rattle.std.proofs.lemmas.List.Elements.{All-push}
use Rattle.byte_streams.specs.Streams.{change}
use Rattle.byte_streams.specs.Source.{Takes}
use Rattle.pattern_index.specs.Groups.{GroupModel, IsGroup}
use Rattle.pattern_index.specs.Partitions.{AreApart, ShareNoTile}
use Rattle.certificate.specs.Sources.{RefusesInput}
use Rattle.certificate.specs.Spellings.{group_text}
use Rattle.certificate.specs.Readings.{group, groups}
use Rattle.certificate.proofs.ReaderLemmas.{passed}
use Rattle.certificate.proofs.GroupLemmas.{apart_pushed}
use Rattle.certificate.proofs.SourceLemmas.{groups_refuse, groups_lack_memory, groups_text_pushed}
use Rattle.certificate.proofs.groups.read_groups.Goals as goal

pub returns-in-Err : goal.returns-in-Err
returns-in-Err g c =
    let old = c.groups.invariant in
    groups_lack_memory c.args.shape c.groups.read.items c.args.count (change g.S.Source.state c.args.source.now c.groups.source) (omega (arith, old.size, c.groups-test.true)) old.selections old.sides old.apart old.taken old.on.1 _

pub returns-in_err-group : goal.returns-in_err-group
returns-in_err-group g c =
    let state = g.S.Source.state in
    let grid = c.args.shape in
    let old = c.groups.invariant in
    let f = c.in_err-group.field-0.0 in
    let r = subst (λ (gs : List GroupModel). RefusesInput (group grid gs) (change state c.groups.source c.read_group.new.source) f) (c.deref.ensures.value ∙ c.reserve.ensures.items) c.in_err-group.ensures in
    passed (groups grid [] c.args.count) _ (change state c.args.source.now c.read_group.new.source) c.from_residual.result f c.from_residual.ensures.1
    (groups_refuse grid c.groups.read.items c.args.count (state c.args.source.now) (state c.groups.source) (state c.read_group.new.source) f (omega (arith, old.size, c.groups-test.true)) old.selections old.sides old.apart old.taken r)

pub groups-preserved : goal.groups-preserved
groups-preserved g c =
    let state = g.S.Source.state in
    let grid = c.args.shape in
    let done = c.groups.read.items in
    let one : GroupModel = c.in_ok-group.group in
    let old = c.groups.invariant in
    let p = c.in_ok-group.ensures in
    let pushed : c.push_reserved.new.self.items ≡ done ++ one ∷ [] = c.push_reserved.ensures.items ∙ ap (λ (l : List GroupModel). l ++ one ∷ []) c.reserve.ensures.items in
    let apart : All (λ h. ShareNoTile h.tiles one.tiles) done = subst (λ (gs : List GroupModel). All (λ h. ShareNoTile h.tiles one.tiles) gs) (c.deref.ensures.value ∙ c.reserve.ensures.items) p.spells.next.apart in
    let both = Consumes-trans (state c.args.source.now).left (state c.groups.source).left (state c.read_group.new.source).left (flat_map group_text done) p.text old.taken p.taken in
    record {
      taken = subst (λ (text : List ℕ). Takes (change state c.args.source.now c.read_group.new.source) text) (ap (λ (l : List ℕ). flat_map group_text done ++ l) p.spells.is ∙ sym (ap (flat_map group_text) pushed ∙ groups_text_pushed done one)) both;
      size = ap (λ (l : List GroupModel). length l) pushed ∙ length_push done one ∙ ap (λ (n : ℕ). n + 1) old.size;
      selections = subst (λ (l : List GroupModel). All (λ (h : GroupModel). IsGroup h) l) (sym pushed) (All-push (λ (h : GroupModel). IsGroup h) done one old.selections p.spells.next.group);
      sides = subst (λ (l : List GroupModel). All (λ (h : GroupModel). h.grid ≡ grid) l) (sym pushed) (All-push (λ (h : GroupModel). h.grid ≡ grid) done one old.sides p.spells.next.sides);
      apart = subst (λ (l : List GroupModel). AreApart l) (sym pushed) (apart_pushed done one old.apart apart);
      on = (old.on.0, p.on.1);
    }
