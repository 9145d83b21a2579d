-- The one spelling of a certificate, by its version. Numbers of several bytes have their lowest byte first.
use Rattle.std.specs.Prelude.{ℕ, ◌≡◌, zero, suc, List, [], ◌∷◌, ◌++◌, length, map, drop, Option, Some, None, if◌then◌else◌, codes}
use Rattle.std.specs.List.{flat_map}
use Rattle.std.specs.Int.{w32, w64, to_le_bytes}
use Rattle.board.specs.declared.moves.Move.{Move}
use Rattle.board.specs.Letters.{letter_of}
use Rattle.board.specs.Equality.{rule_eq}
use Rattle.board.specs.Boards.{BoardModel}
use Rattle.board.specs.Weights.{WeightsModel, unit_rule, face_rule}
use Rattle.pattern_index.specs.Groups.{GroupModel}
use Rattle.certificate.specs.declared.certificate.Version.{Version}
use Rattle.certificate.specs.declared.certificate.Version.TheVariants.{One, Two}
use Rattle.certificate.specs.Certificates.{CertificateModel, IsCertificate}

-- 0 where every move costs 1, 1 where moving tile t costs t, else 2
abbrev pub cost_kind_of : WeightsModel → ℕ
cost_kind_of costs = if rule_eq costs (unit_rule costs.grid) then 0 else if rule_eq costs (face_rule costs.grid) then 1 else 2

-- what follows the kind: for kind 2 the weights of tiles 1, 2, .. in order
abbrev pub weights_text : ℕ → WeightsModel → List ℕ
weights_text zero costs = []
weights_text (suc zero) costs = []
weights_text (suc (suc kind)) costs = drop 1 costs.weights

-- 0 where a plan is claimed, 1 where a bound is
abbrev pub claim_of : Option (List Move) → ℕ
claim_of (Some plan) = 0
claim_of None = 1

-- the eight bytes that say the version
abbrev pub version_text : Version → List ℕ
version_text One = codes "TILECRT1"
version_text Two = codes "TILECRT2"

-- in version 2 a byte says what is claimed
abbrev pub claim_text : Version → ℕ → List ℕ
claim_text One claim = []
claim_text Two claim = claim ∷ []

-- the version, and what is claimed
abbrev pub beginning_text : Version → ℕ → List ℕ
beginning_text version claim = version_text version ++ claim_text version claim

-- the sides of the boards, and the costs
unfoldable pub opening_text : WeightsModel → List ℕ
opening_text costs = costs.grid.rows ∷ costs.grid.cols ∷ cost_kind_of costs ∷ weights_text (cost_kind_of costs) costs

-- the number of tiles, and the tiles
abbrev pub group_text : GroupModel → List ℕ
group_text g = length g.tiles ∷ g.tiles

-- a cost, or the length of a plan: four bytes
unfoldable pub number_text : ℕ → List ℕ
number_text n = to_le_bytes w32 n

-- the number of rows: eight bytes
unfoldable pub count_text : ℕ → List ℕ
count_text n = to_le_bytes w64 n

-- the number of moves, and a letter for each
abbrev pub plan_text : List Move → List ℕ
plan_text plan = number_text (length plan) ++ map letter_of plan

-- the cost and the plan, or the bound alone
abbrev pub claimed_text : ℕ → Option (List Move) → List ℕ
claimed_text cost (Some plan) = number_text cost ++ plan_text plan
claimed_text bound None = number_text bound

-- the tiles, and the cost
abbrev pub row_text : BoardModel × ℕ → List ℕ
row_text row = row.0.tiles ++ number_text row.1

-- all before the boards, with `count` as the number of groups
abbrev pub heading : ℕ → CertificateModel → List ℕ
heading count c = beginning_text c.version (claim_of c.plan) ++ (opening_text c.costs ++ (count ∷ flat_map group_text c.groups.groups))

-- the number of groups, and the groups
abbrev pub groups_text : List GroupModel → List ℕ
groups_text groups = length groups ∷ flat_map group_text groups

-- the boards, and what is claimed
abbrev pub body_text : CertificateModel → List ℕ
body_text c = c.start.tiles ++ (c.goal.tiles ++ claimed_text c.cost c.plan)

-- all before the number of rows
abbrev pub front_text : CertificateModel → List ℕ
front_text c = beginning_text c.version (claim_of c.plan) ++ (opening_text c.costs ++ (groups_text c.groups.groups ++ body_text c))

-- the spelling, with `count` as the number of rows
abbrev pub announcement : ℕ → CertificateModel → List ℕ
announcement count c = front_text c ++ (count_text count ++ flat_map row_text c.rows)

-- the fields in order, and nothing after them
abbrev pub spelling : CertificateModel → List ℕ
spelling c = announcement (length c.rows) c

-- these bytes spell this certificate
abbrev pub Spells : CertificateModel → List ℕ → Type 0
Spells c bytes = IsCertificate c × (bytes ≡ spelling c)
