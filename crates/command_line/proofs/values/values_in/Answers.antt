use Rattle.std.proofs.Common.{codes, sym, ◌∙◌}
use Rattle.clap.specs.Words.{found_of, rows_of}
use Rattle.clap.proofs.WalkLemmas.{first_value-rows}
use Rattle.command_line.proofs.ParseLemmas.{if_none, lack_shape, lack_workers, lack_spread, lack_limit}
use Rattle.command_line.proofs.values.values_in.Goals as goal

pub returns-clause-value : goal.returns-clause-value
returns-clause-value c =
    let found = found_of c.args.matches.now in
    record {
      shape = c.in_ok-shape.ensures.value;
      goal = sym (first_value-rows found (codes "goal")) ∙ sym c.get_str.ensures;
      costs = sym (first_value-rows found (codes "cost")) ∙ sym c.get_str-2.ensures;
      groups = sym (first_value-rows found (codes "groups")) ∙ sym c.get_str-3.ensures;
      fold = c.is_set.ensures;
      workers = c.in_ok-workers.ensures.value;
      spread = c.in_ok-spread.ensures.value;
      limit = c.in_ok-limit.ensures.value;
      progress = c.is_set-2.ensures;
      stats = c.is_set-3.ensures;
    }

pub returns-in_err-shape-clause-none : goal.returns-in_err-shape-clause-none
returns-in_err-shape-clause-none c = if_none _ _ (lack_shape (rows_of (found_of c.args.matches.now)) c.in_err-shape.ensures.none)

pub returns-in_err-workers-clause-none : goal.returns-in_err-workers-clause-none
returns-in_err-workers-clause-none c = if_none _ _ (lack_workers (rows_of (found_of c.args.matches.now)) c.in_err-workers.ensures.none)

pub returns-in_err-spread-clause-none : goal.returns-in_err-spread-clause-none
returns-in_err-spread-clause-none c = if_none _ _ (lack_spread (rows_of (found_of c.args.matches.now)) c.in_err-spread.ensures.none)

pub returns-in_err-limit-clause-none : goal.returns-in_err-limit-clause-none
returns-in_err-limit-clause-none c = if_none _ _ (lack_limit (rows_of (found_of c.args.matches.now)) c.in_err-limit.ensures.none)
