-- What bytes spell the value of a field, or of a part of a certificate: the value is allowed there, and the bytes are its text.
use Rattle.std.specs.Prelude.{ℕ, ◌≡◌, ◌≤◌, ◌<◌, ◌^◌, List, [], ◌∷◌, ◌++◌, length, map, All, Option, None, IfSome}
use Rattle.std.specs.List.{flat_map, AllByRecursion}
use Rattle.board.specs.declared.costs.TheConstants.{GREATEST_COST}
use Rattle.board.specs.declared.moves.Move.{Move}
use Rattle.board.specs.Shapes.{ShapeModel}
use Rattle.board.specs.Boards.{BoardModel}
use Rattle.board.specs.Weights.{WeightsModel, AreWeights}
use Rattle.pattern_index.specs.Groups.{GroupModel, IsGroup}
use Rattle.pattern_index.specs.Partitions.{PartitionModel, ShareNoTile, AreApart}
use Rattle.certificate.specs.declared.certificate.Version.{Version}
use Rattle.certificate.specs.declared.certificate.Version.TheVariants.{One, Two}
use Rattle.certificate.specs.Certificates.{CertificateModel, AreCostsOf, IsSplitOf, IsBoardOf, IsWithinLimit, greatest, IsRow, Follows, RiseAfter, IsCertificate}
use Rattle.board.specs.Letters.{letter_of}
use Rattle.certificate.specs.Spellings.{cost_kind_of, weights_text, version_text, claim_of, claim_text, beginning_text, opening_text, group_text, groups_text, number_text, count_text, plan_text, claimed_text, row_text, body_text, front_text}

-- the version of a certificate, with which it begins
abbrev pub SpellsVersion : Version → List ℕ → Type 0
SpellsVersion version text = text ≡ version_text version

-- in version 1 a plan is claimed, in version 2 that or a bound
abbrev pub IsClaimIn : Version → ℕ → Type 0
IsClaimIn One claim = claim ≡ 0
IsClaimIn Two claim = claim ≤ 1

-- one byte within a range
pub record SpellsByte (low high byte : ℕ) (text : List ℕ) : Type 0 where
  pub above : low ≤ byte
  pub below : byte ≤ high
  pub is : text ≡ byte ∷ []

-- what is claimed in this version
pub record SpellsClaim (version : Version) (claim : ℕ) (text : List ℕ) : Type 0 where
  pub allowed : IsClaimIn version claim
  pub is : text ≡ claim_text version claim

-- the version, and what is claimed
pub record SpellsBeginning (form : Version × ℕ) (text : List ℕ) : Type 0 where
  pub allowed : IsClaimIn form.0 form.1
  pub is : text ≡ beginning_text form.0 form.1

-- a number that is at most this one
pub record SpellsNumberWithin (high n : ℕ) (text : List ℕ) : Type 0 where
  pub within : n ≤ high
  pub is : text ≡ number_text n

-- a cost, or the length of a plan
abbrev pub SpellsNumber : ℕ → List ℕ → Type 0
SpellsNumber = SpellsNumberWithin GREATEST_COST

-- the number of rows
pub record SpellsCount (n : ℕ) (text : List ℕ) : Type 0 where
  pub within : n < 2 ^ 64
  pub is : text ≡ count_text n

-- a board of the grid
pub record SpellsBoard (grid : ShapeModel) (b : BoardModel) (text : List ℕ) : Type 0 where
  pub board : IsBoardOf grid b
  pub is : text ≡ b.tiles

-- a move
abbrev pub SpellsLetter : Move → List ℕ → Type 0
SpellsLetter m text = text ≡ letter_of m ∷ []

-- costs of the grid that are of this kind, by what follows the kind
pub record SpellsCosts (grid : ShapeModel) (n : ℕ) (c : WeightsModel) (text : List ℕ) : Type 0 where
  pub costs : AreCostsOf grid c
  pub kind : cost_kind_of c ≡ n
  pub is : text ≡ weights_text n c

-- the costs of a shape
pub record SpellsOpening (costs : WeightsModel) (text : List ℕ) : Type 0 where
  pub rule : AreWeights costs
  pub is : text ≡ opening_text costs

-- a group of the grid that shares no tile with the groups before it
pub record IsNextGroup (grid : ShapeModel) (before : List GroupModel) (g : GroupModel) : Type 0 where
  pub group : IsGroup g
  pub sides : g.grid ≡ grid
  pub apart : All (λ h. ShareNoTile h.tiles g.tiles) before

-- the n tiles of such a group
pub record SpellsTiles (grid : ShapeModel) (before : List GroupModel) (n : ℕ) (g : GroupModel) (text : List ℕ) : Type 0 where
  pub next : IsNextGroup grid before g
  pub count : length g.tiles ≡ n
  pub is : text ≡ g.tiles

-- such a group, with the number of its tiles
pub record SpellsGroup (grid : ShapeModel) (before : List GroupModel) (g : GroupModel) (text : List ℕ) : Type 0 where
  pub next : IsNextGroup grid before g
  pub is : text ≡ group_text g

-- n groups: they share no tile with one another, and none with the groups before them
pub record SpellsGroups (grid : ShapeModel) (before : List GroupModel) (n : ℕ) (gs : List GroupModel) (text : List ℕ) : Type 0 where
  pub count : length gs ≡ n
  pub groups : All (λ g. IsGroup g) gs
  pub sides : All (λ g. g.grid ≡ grid) gs
  pub apart : AreApart (before ++ gs)
  pub is : text ≡ flat_map group_text gs

-- groups, with their number
pub record SpellsAllGroups (grid : ShapeModel) (groups : PartitionModel) (text : List ℕ) : Type 0 where
  pub split : IsSplitOf grid groups
  pub is : text ≡ groups_text groups.groups

-- n moves
pub record SpellsLetters (n : ℕ) (moves : List Move) (text : List ℕ) : Type 0 where
  pub count : length moves ≡ n
  pub is : text ≡ map letter_of moves

-- a plan, with its length
pub record SpellsPlan (moves : List Move) (text : List ℕ) : Type 0 where
  pub within : IsWithinLimit (length moves)
  pub is : text ≡ plan_text moves

-- a plan and its cost, or a bound
pub record SpellsClaimed (n : ℕ) (found : ℕ × Option (List Move)) (text : List ℕ) : Type 0 where
  pub claim : claim_of found.1 ≡ n
  pub cost : found.0 ≤ greatest found.1
  pub plan : IfSome found.1 (λ plan. IsWithinLimit (length plan))
  pub is : text ≡ claimed_text found.0 found.1

-- a row, which comes after the one with this board, if there is one
pub record SpellsRow (grid : ShapeModel) (before : Option BoardModel) (r : BoardModel × ℕ) (text : List ℕ) : Type 0 where
  pub row : IsRow grid r
  pub follows : Follows before r.0
  pub is : text ≡ row_text r

-- n rows that rise
pub record SpellsRows (grid : ShapeModel) (n : ℕ) (rs : List (BoardModel × ℕ)) (text : List ℕ) : Type 0 where
  pub count : length rs ≡ n
  pub rows : AllByRecursion (IsRow grid) rs
  pub rising : RiseAfter None rs
  pub is : text ≡ flat_map row_text rs

-- rows that rise, with their number
pub record SpellsAllRows (grid : ShapeModel) (rs : List (BoardModel × ℕ)) (text : List ℕ) : Type 0 where
  pub count : length rs < 2 ^ 64
  pub rows : AllByRecursion (IsRow grid) rs
  pub rising : RiseAfter None rs
  pub is : text ≡ count_text (length rs) ++ flat_map row_text rs

-- the boards, and what is claimed, of a statement of this version with these costs and groups, and with no rows
pub record SpellsBody (v : Version) (n : ℕ) (costs : WeightsModel) (groups : PartitionModel) (c : CertificateModel) (text : List ℕ) : Type 0 where
  pub start : IsBoardOf costs.grid c.start
  pub goal : IsBoardOf costs.grid c.goal
  pub claim : claim_of c.plan ≡ n
  pub cost : c.cost ≤ greatest c.plan
  pub plan : IfSome c.plan (λ plan. IsWithinLimit (length plan))
  pub same : c ≡ record c { version = v; grid = costs.grid; costs = costs; groups = groups; rows = [] }
  pub is : text ≡ body_text c

-- all before the rows, of a statement with none
pub record SpellsFront (c : CertificateModel) (text : List ℕ) : Type 0 where
  pub fits : IsCertificate c
  pub bare : c.rows ≡ []
  pub is : text ≡ front_text c
