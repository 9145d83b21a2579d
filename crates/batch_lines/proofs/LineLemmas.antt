-- Where the first line of an input ends, and what is remembered of it on the way.
use Rattle.std.proofs.Common.{◌≡◌, ◌≢◌, ℕ, Bool, suc, ◌+◌, ◌-◌, ◌<◌, ◌≤◌, List, [], ◌∷◌, ◌++◌, true, false, length, get_or, take, refl, sym, ap, ◌∙◌, arith, zero, None, Some, Option, append-nil, subst, inl, inr, length-take, length-append}
use Rattle.std.proofs.lemmas.Bool.{ne_eqb, eq-eqb, lt-ltb, le-ltb, false≢true}
use Rattle.batch_lines.specs.declared.lines.LineKind.TheVariants.{PassedOver, Within, TooLong}
use Rattle.batch_lines.specs.declared.lines.Start.{Start}
use Rattle.batch_lines.specs.declared.lines.Start.TheVariants.{Blanks, Comment, Words}
use Rattle.batch_lines.specs.Lines.{without_return, is_passed_over, line_kind_of, lines_of, onto_first}
use Rattle.batch_lines.specs.Starts.{start_after, start_of, passes, IsScanned}
use Rattle.batch_lines.specs.declared.lines.Scan.{Scan}
use Rattle.batch_lines.specs.declared.lines.TheConstants.{LINE_LIMIT, KEPT, INPUT_LIMIT}
use Rattle.std.specs.Io.KnownBytes.{Consumes, IsAtEnd, Keeps}
use Rattle.std.proofs.KnownBytes.{Consumes-nil, Consumes-trans}
use Rattle.std.proofs.lemmas.List.{take_all, take-append-le, nil_from_length}
use Rattle.batch_lines.specs.Readings.{HasNoFeed, TakesKnown, CountsKnown}

-- ---- A line is judged by how it begins and by its length.

-- what is remembered of a line beside its first bytes
abbrev pub scan_of : Start → Bool → Scan
scan_of start more = record { start = start; more = more }

comment_stays : (bs : List ℕ) → passes (start_of Comment bs) ≡ true
comment_stays [] = refl
comment_stays (b ∷ bs) = comment_stays bs

words_stay : (bs : List ℕ) → passes (start_of Words bs) ≡ false
words_stay [] = refl
words_stay (b ∷ bs) = words_stay bs

-- a line is passed over where its bytes say so at its end
pub passed_over_is : (line : List ℕ) → is_passed_over (without_return line) ≡ passes (start_of Blanks line)
passed_over_is [] = refl
passed_over_is (b ∷ []) = grind arith
passed_over_is (b ∷ c ∷ bs) = grind (arith, passed_over_is (c ∷ bs), comment_stays (c ∷ bs), words_stay (c ∷ bs), words_stay bs)

-- one more byte
pub start_more : (start : Start) (bs : List ℕ) (b : ℕ) → start_of start (bs ++ b ∷ []) ≡ start_after (start_of start bs) b
start_more start [] b = refl
start_more start (c ∷ bs) b = start_more (start_after start c) bs b

pub kind_of-passed : (line : List ℕ) → passes (start_of Blanks line) ≡ true → line_kind_of line ≡ PassedOver
kind_of-passed line passed = rw (passed_over_is line, passed) refl

pub kind_of-long : (line : List ℕ) → passes (start_of Blanks line) ≡ false → LINE_LIMIT < length (without_return line) → line_kind_of line ≡ TooLong
kind_of-long line answered long = rw (passed_over_is line, answered, lt-ltb LINE_LIMIT (length (without_return line)) long) refl

pub kind_of-within : (line : List ℕ) → passes (start_of Blanks line) ≡ false → length (without_return line) ≤ LINE_LIMIT → line_kind_of line ≡ Within
kind_of-within line answered short = rw (passed_over_is line, answered, le-ltb LINE_LIMIT (length (without_return line)) short) refl

-- no more than one byte is dropped
pub length-without_return : (line : List ℕ) → length line ≤ length (without_return line) + 1
length-without_return [] = omega arith
length-without_return (b ∷ []) = omega arith
length-without_return (b ∷ c ∷ bs) = let rest = length-without_return (c ∷ bs) in omega arith

-- a carriage return at the end is dropped
pub return_dropped : (line : List ℕ) → 0 < length line → get_or line (length line - 1) 0 ≡ 13 → take (length line - 1) line ≡ without_return line
return_dropped [] some last = absurd (omega arith)
return_dropped (b ∷ []) some last = let e : b ≡ 13 = last in rw (eq-eqb b 13 e) refl
return_dropped (b ∷ c ∷ bs) some last =
    let at : length (b ∷ c ∷ bs) - 1 ≡ suc (length bs) = omega arith in
    let before : length (c ∷ bs) - 1 ≡ length bs = omega arith in
    let end : get_or (c ∷ bs) (length bs) 0 ≡ 13 = ap (λ (k : ℕ). get_or (b ∷ c ∷ bs) k 0) (sym at) ∙ last in
    let rest = return_dropped (c ∷ bs) (omega arith) (ap (λ (k : ℕ). get_or (c ∷ bs) k 0) before ∙ end) in
    ap (λ (k : ℕ). take k (b ∷ c ∷ bs)) at ∙ ap (λ (ls : List ℕ). b ∷ ls) (ap (λ (k : ℕ). take k (c ∷ bs)) (sym before) ∙ rest)

-- and no other byte
pub nothing_dropped : (line : List ℕ) → (0 < length line → get_or line (length line - 1) 0 ≢ 13) → without_return line ≡ line
nothing_dropped [] other = refl
nothing_dropped (b ∷ []) other = rw (ne_eqb b 13 (other (omega arith))) refl
nothing_dropped (b ∷ c ∷ bs) other =
    let at : length (b ∷ c ∷ bs) - 1 ≡ suc (length (c ∷ bs) - 1) = omega arith in
    ap (λ (ls : List ℕ). b ∷ ls) (nothing_dropped (c ∷ bs) (λ some e. other (omega arith) (ap (λ (k : ℕ). get_or (b ∷ c ∷ bs) k 0) at ∙ e)))

-- no whole line is among the bytes that were taken within the limit
abbrev pub LosesLine : Option (List ℕ) → Option (List ℕ) → ℕ → Type 0
LosesLine old new room = (seen : List ℕ) × Consumes old new seen × HasNoFeed (take room seen)

-- bytes without a line feed before one are the first line
feed_ends : (line rest : List ℕ) → HasNoFeed line → lines_of (line ++ 10 ∷ rest) ≡ line ∷ lines_of rest
feed_ends [] rest none = refl
feed_ends (b ∷ bs) rest none = rw (ne_eqb b 10 none.0) (ap (onto_first b) (feed_ends bs rest none.1))

-- bytes without a line feed at the end of the input are its last line
input_ends : (b : ℕ) (line : List ℕ) → HasNoFeed (b ∷ line) → lines_of (b ∷ line) ≡ (b ∷ line) ∷ []
input_ends b [] none = rw (ne_eqb b 10 none.0) refl
input_ends b (c ∷ bs) none = rw (ne_eqb b 10 none.0) (ap (onto_first b) (input_ends c bs none.1))

HasNoFeed-more : (bytes : List ℕ) (b : ℕ) → HasNoFeed bytes → b ≢ 10 → HasNoFeed (bytes ++ b ∷ [])
HasNoFeed-more [] b none other = (other, tt)
HasNoFeed-more (c ∷ bs) b none other = (none.0, HasNoFeed-more bs b none.1 other)

HasNoFeed-take : (n : ℕ) (bytes : List ℕ) → HasNoFeed bytes → HasNoFeed (take n bytes)
HasNoFeed-take zero bytes none = tt
HasNoFeed-take (suc n) [] none = tt
HasNoFeed-take (suc n) (b ∷ bs) none = (none.0, HasNoFeed-take n bs none.1)

-- the part of a line that is taken so far
pub record IsUnderWay (old now : Option (List ℕ)) (before taken : ℕ) (kept : List ℕ) (start : Start) (more : Bool) : Type 0 where
  pub seen : List ℕ
  pub consumed : Consumes old now seen
  pub no_feed : HasNoFeed seen
  pub scan : IsScanned seen kept (scan_of start more)
  pub counted : taken ≡ before + length seen
  pub within : taken ≤ INPUT_LIMIT

pub IsUnderWay-none : (old : Option (List ℕ)) (taken : ℕ) → taken ≤ INPUT_LIMIT → IsUnderWay old old taken taken [] Blanks false
IsUnderWay-none old taken within = record {
  seen = [];
  consumed = Consumes-nil old;
  no_feed = tt;
  scan = record { first = refl; begins = refl; long = ((λ h. absurd (false≢true h)), (λ h. absurd (omega arith))) };
  counted = omega arith;
  within = within;
}

-- one more byte, which is kept
pub IsUnderWay-kept : (old now new : Option (List ℕ)) (before taken : ℕ) (kept : List ℕ) (start : Start) (more : Bool) (b : ℕ) → length kept < KEPT → b ≢ 10 → Consumes now new (b ∷ []) → taken + 1 ≤ INPUT_LIMIT →
    IsUnderWay old now before taken kept start more → IsUnderWay old new before (taken + 1) (kept ++ b ∷ []) (start_after start b) more
IsUnderWay-kept old now new before taken kept start more b room other byte within way =
    let short : length way.seen ≤ LINE_LIMIT = omega (arith, length-take KEPT way.seen, ap length way.scan.first) in
    let whole : kept ≡ way.seen = way.scan.first ∙ take_all KEPT way.seen (omega arith) in
    let longer : length (way.seen ++ b ∷ []) ≡ length way.seen + 1 = length-append way.seen (b ∷ []) in
    record {
      seen = way.seen ++ b ∷ [];
      consumed = Consumes-trans old now new way.seen (b ∷ []) way.consumed byte;
      no_feed = HasNoFeed-more way.seen b way.no_feed other;
      scan = record {
        first = ap (λ (l : List ℕ). l ++ b ∷ []) whole ∙ sym (take_all KEPT (way.seen ++ b ∷ []) (omega arith));
        begins = ap (λ (s : Start). start_after s b) way.scan.begins ∙ sym (start_more Blanks way.seen b);
        long = ((λ h. absurd (omega (arith, way.scan.long.0 h))), (λ h. absurd (omega arith)));
      };
      counted = omega (arith, way.counted);
      within = within;
    }

-- one more byte, which is not kept
pub IsUnderWay-long : (old now new : Option (List ℕ)) (before taken : ℕ) (kept : List ℕ) (start : Start) (more : Bool) (b : ℕ) → KEPT ≤ length kept → b ≢ 10 → Consumes now new (b ∷ []) → taken + 1 ≤ INPUT_LIMIT →
    IsUnderWay old now before taken kept start more → IsUnderWay old new before (taken + 1) kept (start_after start b) true
IsUnderWay-long old now new before taken kept start more b full other byte within way =
    let enough : KEPT ≤ length way.seen = omega (arith, length-take KEPT way.seen, ap length way.scan.first) in
    let longer : length (way.seen ++ b ∷ []) ≡ length way.seen + 1 = length-append way.seen (b ∷ []) in
    record {
      seen = way.seen ++ b ∷ [];
      consumed = Consumes-trans old now new way.seen (b ∷ []) way.consumed byte;
      no_feed = HasNoFeed-more way.seen b way.no_feed other;
      scan = record {
        first = way.scan.first ∙ sym (take-append-le KEPT way.seen (b ∷ []) enough);
        begins = ap (λ (s : Start). start_after s b) way.scan.begins ∙ sym (start_more Blanks way.seen b);
        long = ((λ h. omega arith), (λ h. refl));
      };
      counted = omega (arith, way.counted);
      within = within;
    }

-- a line feed ends the line
feed_taken : (old now new : Option (List ℕ)) (seen : List ℕ) → HasNoFeed seen → Consumes old now seen → Consumes now new (10 ∷ []) → TakesKnown old new seen
feed_taken None now new seen none p q = tt
feed_taken (Some input) None new seen none p q = absurd p
feed_taken (Some input) (Some left) None seen none p q = absurd q
feed_taken (Some input) (Some left) (Some rest) seen none p q =
    let whole : input ≡ seen ++ 10 ∷ rest = p ∙ ap (λ (l : List ℕ). seen ++ l) q in
    record { first = ap lines_of whole ∙ feed_ends seen rest none; whole = inl whole }

-- the end of the input ends the line
end_taken : (old now new : Option (List ℕ)) (b : ℕ) (seen : List ℕ) → HasNoFeed (b ∷ seen) → Consumes old now (b ∷ seen) → IsAtEnd now → Keeps now new → TakesKnown old new (b ∷ seen)
end_taken None now new b seen none p q k = tt
end_taken (Some input) None new b seen none p q k = absurd p
end_taken (Some input) (Some left) None b seen none p q k = absurd k
end_taken (Some input) (Some left) (Some rest) b seen none p q k =
    let whole : input ≡ b ∷ seen = p ∙ ap (λ (l : List ℕ). (b ∷ seen) ++ l) q ∙ append-nil (b ∷ seen) in
    let nothing : rest ≡ [] = k ∙ q in
    record { first = ap lines_of whole ∙ input_ends b seen none ∙ ap (λ (l : List ℕ). (b ∷ seen) ∷ lines_of l) (sym nothing); whole = inr (whole, nothing) }

-- no byte was taken and none is left
nothing_taken : (old now new : Option (List ℕ)) → Consumes old now [] → IsAtEnd now → Keeps now new → IsAtEnd old × Keeps old new
nothing_taken None now new p q k = (tt, tt)
nothing_taken (Some input) None new p q k = absurd p
nothing_taken (Some input) (Some left) None p q k = absurd k
nothing_taken (Some input) (Some left) (Some rest) p q k = (p ∙ q, k ∙ sym p)

-- the end of the input before any byte of a line
pub ends_before : (old now new : Option (List ℕ)) (before taken : ℕ) (kept : List ℕ) (start : Start) (more : Bool) → length kept ≡ 0 → IsAtEnd now → Keeps now new → IsUnderWay old now before taken kept start more → IsAtEnd old × Keeps old new × (taken ≡ before)
ends_before old now new before taken kept start more none q k way =
    let short : length way.seen ≡ 0 = omega (arith, length-take KEPT way.seen, ap length way.scan.first) in
    let at = nothing_taken old now new (subst (Consumes old now) (nil_from_length way.seen short) way.consumed) q k in
    (at.0, at.1, omega (arith, way.counted))

-- the end of the input after some bytes of a line
pub ends_after : (old now new : Option (List ℕ)) (before taken : ℕ) (kept : List ℕ) (start : Start) (more : Bool) → 0 < length kept → IsAtEnd now → Keeps now new → IsUnderWay old now before taken kept start more →
    (line : List ℕ) × TakesKnown old new line × IsScanned line kept (scan_of start more) × (before < taken)
ends_after old now new before taken kept start more some q k way =
    (way.seen, last way.seen way.no_feed way.consumed enough, way.scan, omega (arith, way.counted, enough)) where
      enough : 0 < length way.seen
      enough = omega (arith, length-take KEPT way.seen, ap length way.scan.first)

      last : (seen : List ℕ) → HasNoFeed seen → Consumes old now seen → 0 < length seen → TakesKnown old new seen
      last [] none p l = absurd (omega arith)
      last (b ∷ bs) none p l = end_taken old now new b bs none p q k

-- a line feed after the bytes of a line
pub ends_by_feed : (old now new : Option (List ℕ)) (before taken : ℕ) (kept : List ℕ) (start : Start) (more : Bool) → Consumes now new (10 ∷ []) → IsUnderWay old now before taken kept start more →
    (line : List ℕ) × TakesKnown old new line × IsScanned line kept (scan_of start more) × (before < taken + 1)
ends_by_feed old now new before taken kept start more feed way =
    (way.seen, feed_taken old now new way.seen way.no_feed way.consumed feed, way.scan, omega (arith, way.counted))

-- to keep what is left is to take nothing
kept_consumes : (x y : Option (List ℕ)) → Keeps x y → Consumes x y []
kept_consumes None y k = tt
kept_consumes (Some xs) None k = absurd k
kept_consumes (Some xs) (Some ys) k = sym k

-- the source fails on the way
pub lost_on_the_way : (old now new : Option (List ℕ)) (before taken room : ℕ) (kept : List ℕ) (start : Start) (more : Bool) → Keeps now new → IsUnderWay old now before taken kept start more → LosesLine old new room
lost_on_the_way old now new before taken room kept start more k way =
    (way.seen, subst (λ (bytes : List ℕ). Consumes old new bytes) (append-nil way.seen) (Consumes-trans old now new way.seen [] way.consumed (kept_consumes now new k)), HasNoFeed-take room way.seen way.no_feed)

-- the input passes its limit
pub lost_past_limit : (old now new : Option (List ℕ)) (before taken : ℕ) (kept : List ℕ) (start : Start) (more : Bool) (b : ℕ) → Consumes now new (b ∷ []) → INPUT_LIMIT < taken + 1 → IsUnderWay old now before taken kept start more → LosesLine old new (INPUT_LIMIT - before)
lost_past_limit old now new before taken kept start more b byte past way =
    let room : INPUT_LIMIT - before ≡ length way.seen = omega (arith, way.counted, way.within) in
    let whole : take (INPUT_LIMIT - before) (way.seen ++ b ∷ []) ≡ way.seen =
    ap (λ (n : ℕ). take n (way.seen ++ b ∷ [])) room ∙ take-append-le (length way.seen) way.seen (b ∷ []) (omega arith) ∙ take_all (length way.seen) way.seen (omega arith) in
    (way.seen ++ b ∷ [], Consumes-trans old now new way.seen (b ∷ []) way.consumed byte, subst HasNoFeed (sym whole) way.no_feed)

-- nothing was taken
pub lost_at_once : (old : Option (List ℕ)) (room : ℕ) → LosesLine old old room
lost_at_once old room = ([], Consumes-nil old, HasNoFeed-take room [] tt)

-- what was taken is counted
counts : (old now : Option (List ℕ)) (before taken : ℕ) (seen : List ℕ) → Consumes old now seen → taken ≡ before + length seen → CountsKnown old now before taken
counts None now before taken seen p e = tt
counts (Some input) None before taken seen p e = absurd p
counts (Some input) (Some rest) before taken seen p e = omega (arith, ap length p, length-append seen rest)

pub counted_on_the_way : (old now new : Option (List ℕ)) (before taken : ℕ) (kept : List ℕ) (start : Start) (more : Bool) → Keeps now new → IsUnderWay old now before taken kept start more → CountsKnown old new before taken
counted_on_the_way old now new before taken kept start more k way =
    counts old new before taken way.seen (subst (λ (bytes : List ℕ). Consumes old new bytes) (append-nil way.seen) (Consumes-trans old now new way.seen [] way.consumed (kept_consumes now new k))) way.counted

pub counted_with_byte : (old now new : Option (List ℕ)) (before taken : ℕ) (kept : List ℕ) (start : Start) (more : Bool) (b : ℕ) → Consumes now new (b ∷ []) → IsUnderWay old now before taken kept start more → CountsKnown old new before (taken + 1)
counted_with_byte old now new before taken kept start more b byte way =
    counts old new before (taken + 1) (way.seen ++ b ∷ []) (Consumes-trans old now new way.seen (b ∷ []) way.consumed byte) (omega (arith, way.counted, length-append way.seen (b ∷ [])))

pub counted_at_once : (old : Option (List ℕ)) (before : ℕ) → CountsKnown old old before before
counted_at_once None before = tt
counted_at_once (Some input) before = refl
