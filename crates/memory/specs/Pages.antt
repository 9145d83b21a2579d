-- A list in pages.
use Rattle.std.specs.Prelude.{List, ◌≡◌, ◌≤◌, length}
use Rattle.std.specs.List.{flat_map, AllByRecursion}
use Rattle.std.specs.declared.vec.Vec.{Vec}
use Rattle.memory.specs.declared.pages.TheConstants.{PAGE_LENGTH, PAGE_LIMIT}

-- the items of all pages, in order
abbrev pub items_of : {T Z : Type 0} → List (Vec T Z) → List T
items_of {T} {Z} pages = flat_map (λ (p : Vec T Z). p.items) pages

-- each page has its number of items
abbrev pub AreFull : {T Z : Type 0} → List (Vec T Z) → Type 0
AreFull {T} {Z} pages = AllByRecursion (λ (p : Vec T Z). length p.items ≡ PAGE_LENGTH) pages

-- full pages, and no more than there may be
pub record ArePages {T Z : Type 0} (pages : List (Vec T Z)) : Type 0 where
  pub full : AreFull pages
  pub few : length pages ≤ PAGE_LIMIT
