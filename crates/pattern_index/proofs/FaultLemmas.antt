-- The first fault of numbers: at most one, and none where they make a group.
use Rattle.std.proofs.Common.{◌≡◌, ◌⊎◌, ℕ, zero, suc, ◌<◌, ◌≤◌, List, [], ◌∷◌, length, take, get_or, refl, sym, ap, ◌∙◌, subst, ⊎_elim, arith}
use Rattle.std.specs.Prelude.{Contains}
use Rattle.std.proofs.lemmas.Bool.{cases_order}
use Rattle.std.proofs.lemmas.List.{get_or-take, get_or_default, length-take-le}
use Rattle.board.specs.Shapes.{ShapeModel}
use Rattle.pattern_index.specs.declared.group.TheConstants.{MAX_SIZE}
use Rattle.pattern_index.specs.Groups.{GroupModel, IsTile, AreGroupTiles, size_of}
use Rattle.pattern_index.specs.Partitions.{AreApart, IsPartitionFault}
use Rattle.pattern_index.specs.Faults.{IsFirstGroupPlace, IsFirstGroupFault}
use Rattle.pattern_index.specs.declared.faults.GroupFault.{GroupFault}
use Rattle.pattern_index.specs.declared.faults.GroupFault.TheVariants.{Empty, NotATile, Repeated, TooManyViews}
use Rattle.pattern_index.specs.declared.faults.PartitionFault.{PartitionFault}
use Rattle.pattern_index.specs.declared.faults.PartitionFault.TheVariants.{SharedTile, TooManyGroups}

-- a group has no number that is no tile
all_tiles : (grid : ShapeModel) (xs : List ℕ) (place : ℕ) → AreGroupTiles grid xs → place < length xs → ¬ IsTile grid (get_or xs place 0) → ⊥
all_tiles grid xs place group within none = none (group.tiles place 0 within)

-- and none that an earlier place has too
none_repeated : (grid : ShapeModel) (xs : List ℕ) (place : ℕ) → AreGroupTiles grid xs → place < length xs → Contains (take place xs) (get_or xs place 0) → ⊥
none_repeated grid xs place group within found =
    let x = get_or xs place 0 in
    let front : length (take place xs) ≡ place = length-take-le place xs (omega arith) in
    let low : found.0 < place = omega (arith, found.1) in
    group.different found.0 place x low within (sym (get_or-take place xs found.0 x low) ∙ found.2 ∙ get_or_default xs place 0 x within)

take_twice : (i j : ℕ) (ys : List ℕ) → i ≤ j → take i (take j ys) ≡ take i ys
take_twice zero j ys le = refl
take_twice (suc i) zero ys le = absurd (omega arith)
take_twice (suc i) (suc j) [] le = refl
take_twice (suc i) (suc j) (y ∷ ys) le = ap (λ (zs : List ℕ). y ∷ zs) (take_twice i j ys (omega arith))

-- the numbers before a place, seen from a later one
before : (xs : List ℕ) (p q : ℕ) → p < q → q < length xs → (p < length (take q xs)) × (get_or (take q xs) p 0 ≡ get_or xs p 0) × (take p (take q xs) ≡ take p xs)
before xs p q lt within =
    let front : length (take q xs) ≡ q = length-take-le q xs (omega arith) in
    (omega arith, get_or-take q xs p 0 lt, take_twice p q xs (omega arith))

-- the first number that is no tile and the first repeated one aren't both the first fault
tile_or_repeated : (grid : ShapeModel) (numbers : List ℕ) → IsFirstGroupFault grid numbers NotATile → IsFirstGroupFault grid numbers Repeated → ⊥
tile_or_repeated grid numbers first second =
    let p = first.0 in
    let q = second.0 in
    ⊎_elim (λ (e : p ≡ q). first.2 (subst (λ (k : ℕ). IsTile grid (get_or numbers k 0)) (sym e) second.2))
    (λ (h : (p < q) ⊎ (q < p)).
    ⊎_elim (λ (lt : p < q). let at = before numbers p q lt second.1.within in all_tiles grid (take q numbers) p second.1.before at.0 (subst (λ (x : ℕ). ¬ IsTile grid x) (sym at.1) first.2))
    (λ (lt : q < p).
    let at = before numbers q p lt first.1.within in
    none_repeated grid (take p numbers) q first.1.before at.0 (subst (λ (x : ℕ). Contains (take q (take p numbers)) x) (sym at.1) (subst (λ (xs : List ℕ). Contains xs (get_or numbers q 0)) (sym at.2) second.3)))
    h)
    (cases_order p q)

-- numbers that make a group have no fault
pub no_fault : (grid : ShapeModel) (numbers : List ℕ) → 0 < length numbers → AreGroupTiles grid numbers → size_of (record { grid = grid; tiles = numbers }) ≤ MAX_SIZE → (fault : GroupFault) → IsFirstGroupFault grid numbers fault → ⊥
no_fault grid numbers some group small Empty first = let e = ap length first in omega arith
no_fault grid numbers some group small NotATile first = all_tiles grid numbers first.0 group first.1.within first.2
no_fault grid numbers some group small Repeated first = none_repeated grid numbers first.0 group first.1.within first.3
no_fault grid numbers some group small TooManyViews first = omega (arith, first.2)

empty_place : (grid : ShapeModel) (numbers : List ℕ) (place : ℕ) → numbers ≡ [] → IsFirstGroupPlace grid numbers place → ⊥
empty_place grid numbers place none first = let e = ap length none in omega (arith, first.within)

-- numbers have one first fault
pub one_fault : (grid : ShapeModel) (numbers : List ℕ) (fault fault' : GroupFault) → IsFirstGroupFault grid numbers fault → IsFirstGroupFault grid numbers fault' → fault' ≡ fault
one_fault grid numbers Empty Empty first second = refl
one_fault grid numbers Empty NotATile first second = absurd (empty_place grid numbers second.0 first second.1)
one_fault grid numbers Empty Repeated first second = absurd (empty_place grid numbers second.0 first second.1)
one_fault grid numbers Empty TooManyViews first second = absurd (second.0 first)
one_fault grid numbers NotATile Empty first second = absurd (empty_place grid numbers first.0 second first.1)
one_fault grid numbers NotATile NotATile first second = refl
one_fault grid numbers NotATile Repeated first second = absurd (tile_or_repeated grid numbers first second)
one_fault grid numbers NotATile TooManyViews first second = absurd (all_tiles grid numbers first.0 second.1 first.1.within first.2)
one_fault grid numbers Repeated Empty first second = absurd (empty_place grid numbers first.0 second first.1)
one_fault grid numbers Repeated NotATile first second = absurd (tile_or_repeated grid numbers second first)
one_fault grid numbers Repeated Repeated first second = refl
one_fault grid numbers Repeated TooManyViews first second = absurd (none_repeated grid numbers first.0 second.1 first.1.within first.3)
one_fault grid numbers TooManyViews Empty first second = absurd (first.0 second)
one_fault grid numbers TooManyViews NotATile first second = absurd (all_tiles grid numbers second.0 first.1 second.1.within second.2)
one_fault grid numbers TooManyViews Repeated first second = absurd (none_repeated grid numbers second.0 first.1 second.1.within second.3)
one_fault grid numbers TooManyViews TooManyViews first second = refl

-- groups that make a partition have no fault
pub no_split_fault : (groups : List GroupModel) → length groups ≤ 24 → AreApart groups → (fault : PartitionFault) → IsPartitionFault groups fault → ⊥
no_split_fault groups few apart SharedTile first = first.1 apart
no_split_fault groups few apart TooManyGroups first = omega (arith, first)

-- groups have one first fault
pub one_split_fault : (groups : List GroupModel) (fault fault' : PartitionFault) → IsPartitionFault groups fault → IsPartitionFault groups fault' → fault' ≡ fault
one_split_fault groups SharedTile SharedTile first second = refl
one_split_fault groups SharedTile TooManyGroups first second = absurd (omega (arith, first.0, second))
one_split_fault groups TooManyGroups SharedTile first second = absurd (omega (arith, first, second.0))
one_split_fault groups TooManyGroups TooManyGroups first second = refl
