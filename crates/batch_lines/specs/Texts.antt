-- What the texts of options say: a goal, costs, and groups of tiles.
use Rattle.std.specs.Prelude.{ℕ, ◌≡◌, ◌≤◌, ◌⊎◌, ◌==◌, List, [], ◌∷◌, map, if◌then◌else◌, codes, IsPermutation, ◌&&◌, nat_lt}
use Rattle.std.specs.List.{slice_split, AllZip, list_all}
use Rattle.std.specs.Str.{bytes_eq}
use Rattle.board.specs.Shapes.{ShapeModel}
use Rattle.board.specs.Boards.{BoardModel, IsBoard}
use Rattle.board.specs.Weights.{WeightsModel, AreWeights, listed_rule, unit_rule, face_rule}
use Rattle.pattern_index.specs.Groups.{GroupModel, IsGroup}
use Rattle.batch_lines.specs.TileNumbers.{tile_number}
use Rattle.batch_lines.specs.Words.{SpellsDecimal, SpellEach}
use Rattle.std.specs.Char.{is_ascii_digit}
use Rattle.std.specs.Str.Parse.{digits_value}

-- the words of a text: the texts before, between and behind its commas
abbrev pub comma_words : List ℕ → List (List ℕ)
comma_words text = slice_split (λ byte. byte == 44) text

-- the board whose tiles the words of the text spell, cell by cell
pub record IsGoalOf (grid : ShapeModel) (text : List ℕ) (b : BoardModel) : Type 0 where
  pub spelled : SpellEach (comma_words text) b.tiles
  pub board : IsBoard b
  pub sides : b.grid ≡ grid

-- the word spells a number from 1 to 255
pub record SpellsWeight (word : List ℕ) : Type 0 where
  pub weight : ℕ
  pub spelled : SpellsDecimal word weight
  pub low : 1 ≤ weight
  pub high : weight ≤ 255

-- the costs whose weights the words of the text spell, tile by tile
pub record SaysWeights (grid : ShapeModel) (text : List ℕ) (rule : WeightsModel) : Type 0 where
  pub weights : List ℕ
  pub spelled : SpellEach (comma_words text) weights
  pub listed : rule ≡ listed_rule grid weights
  pub sound : AreWeights rule

-- the costs that a text says: unit cost by `unit`, face cost by `face`, or those whose weights its words spell
abbrev pub SaysCosts : ShapeModel → List ℕ → WeightsModel → Type 0
SaysCosts grid text rule = ((text ≡ codes "unit") × (rule ≡ unit_rule grid)) ⊎ (((text ≡ codes "face") × (rule ≡ face_rule grid)) ⊎ SaysWeights grid text rule)

-- the texts of groups: those before, between and behind the slashes; `none` says that there is no group
abbrev pub group_texts : List ℕ → List (List ℕ)
group_texts text = if bytes_eq text (codes "none") then [] else slice_split (λ byte. byte == 47) text

-- the numbers that the words of a group say; a text of no bytes has no word
abbrev pub group_numbers : List ℕ → List ℕ
group_numbers [] = []
group_numbers (byte ∷ bytes) = map tile_number (comma_words (byte ∷ bytes))

-- the group whose tiles the words of the text say, in any order
pub record IsGroupOf (grid : ShapeModel) (text : List ℕ) (g : GroupModel) : Type 0 where
  pub tiles : IsPermutation (group_numbers text) g.tiles
  pub group : IsGroup g
  pub sides : g.grid ≡ grid

-- text by text, these groups
abbrev pub AreGroupsOf : ShapeModel → List (List ℕ) → List GroupModel → Type 0
AreGroupsOf grid texts groups = AllZip (IsGroupOf grid) texts groups

-- the number that a word of digits says, where it is below 256, and 0, which is no weight, for any other word
abbrev pub weight_number : List ℕ → ℕ
weight_number word = if list_all is_ascii_digit word && nat_lt (digits_value 10 word) 256 then digits_value 10 word else 0
