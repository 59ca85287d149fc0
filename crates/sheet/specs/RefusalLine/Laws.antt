-- 48 bytes hold the line of a refusal.
use Rattle.std.specs.Prelude.{[], ◌∷◌, ◌++◌, ℕ, ◌^◌, ◌≤◌, ◌<◌, length}
use Rattle.std.proofs.Common.{arith, length-append}
use Rattle.fields.specs.{Bytes.digits, Bytes.Numeral.digits-length, Split.line_feed, Split.tab}
use Rattle.sheet.specs.{declared.refusal.Source.Source, RefusalLine.refusal_head, RefusalLine.refusal_line}

head-short : (s : Source) → length (refusal_head s) ≤ 16
head-short Source.Sheet = omega arith
head-short Source.Cues = omega arith
head-short Source.Listing = omega arith

-- a 32-bit number has at most 10 digits, a 64-bit one 20
pub refusal-short : (s : Source) (n k : ℕ) → n < 2 ^ 32 → k < 2 ^ 64 → length (refusal_line s n k) ≤ 48
refusal-short s n k h i =
    let all = length-append (refusal_head s) (digits n ++ (tab ∷ (digits k ++ (line_feed ∷ [])))) in
    let numbers = length-append (digits n) (tab ∷ (digits k ++ (line_feed ∷ []))) in
    let last = length-append (digits k) (line_feed ∷ []) in
    omega (arith, all, numbers, last, head-short s, digits-length 9 n (omega arith), digits-length 19 k (omega arith))
