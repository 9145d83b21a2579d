-- The ledgers of a run.
use Rattle.std.specs.Prelude.{ℕ, ◌≡◌}
use Rattle.thread_runs.specs.declared.ledgers.Blanks.{Blanks}

-- the blanks are of two ledgers with these names and numbers of parts: that of the credit, and that of what is granted
pub record AreBlanksOf (name parts name' parts' : ℕ) (blanks : Blanks) : Type 0 where
  pub credit_name : blanks.credit.name ≡ name
  pub credit_parts : blanks.credit.parts ≡ parts
  pub grants_name : blanks.grants.name ≡ name'
  pub grants_parts : blanks.grants.parts ≡ parts'
