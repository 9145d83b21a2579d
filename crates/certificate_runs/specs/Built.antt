-- The tables that a certificate is checked with.
use Rattle.std.specs.Prelude.{ℕ, ◌≤◌, All, slice_index}
use Rattle.database_build.specs.Tables.{TableModel}
use Rattle.database_build.specs.Folds.{FoldedModel}
use Rattle.pattern_search.specs.declared.finding.TheConstants.{NO_VALUE}
use Rattle.lower_bound.specs.Tables.{BoundModel}
use Rattle.table_sets.specs.Built.{AreBuilt}
use Rattle.certificate.specs.Certificates.{CertificateModel}

-- the tables of the certificate's groups, each with the value of each view for the certificate's goal and costs
abbrev pub AreBuiltFor : CertificateModel → BoundModel → Type 0
AreBuiltFor c tables = AreBuilt c.groups c.costs c.goal tables

-- no entry of the table is above the greatest value
abbrev pub HasSmallEntries : TableModel → Type 0
HasSmallEntries table = (rank : ℕ) → slice_index table.values rank ≤ NO_VALUE

-- nor one of the folded table
abbrev pub HasSmallFolds : FoldedModel → Type 0
HasSmallFolds fold = (place : ℕ) → slice_index fold.least place ≤ NO_VALUE

-- no entry of these tables, whole or folded, is
pub record HaveSmallEntries (tables : BoundModel) : Type 0 where
  pub whole : All HasSmallEntries tables.lookups
  pub folded : All HasSmallFolds tables.folds
