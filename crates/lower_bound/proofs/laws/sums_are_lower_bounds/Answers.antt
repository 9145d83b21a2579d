use Rattle.lower_bound.proofs.PartLemmas.{sums_are_bounds, tables_are_bounds, whole_are_bounds}
use Rattle.lower_bound.proofs.laws.sums_are_lower_bounds.Goals as goal

pub returns-clause-parts : goal.returns-clause-parts
returns-clause-parts c = sums_are_bounds

pub returns-clause-whole : goal.returns-clause-whole
returns-clause-whole c = whole_are_bounds

pub returns-clause-tables : goal.returns-clause-tables
returns-clause-tables c = tables_are_bounds
