-- Laws of a listing's lines: their pieces, as a writer puts them.
use mathlib.Core.{Path.◌≡◌, List.[], List.◌∷◌, List.◌++◌, List.append_assoc}
use Rattle.std.specs.Prelude.{Some, None, ℕ, ◌+◌, ◌-◌, ◌≤◌, length}
use Rattle.std.proofs.Common.{arith, length-append}
use Rattle.fields.specs.{Bytes.Text, Bytes.digits, declared.split.Heads.Heads, Split.line_feed, Split.tab, Split.part, Heads.Laws.Three}
use Rattle.sheet.{specs.Cues.children, proofs.SheetLaws.part-size}
use Rattle.model.specs.declared.verdict.Verdict.TheVariants.{Complete, Open, Dead}
use Rattle.lister.specs.Listing.{Said, word, listing_line}

pub word-short : (v : Said) → length (word v) ≤ 8
word-short (Some Complete) = omega arith
word-short (Some Open) = omega arith
word-short (Some Dead) = omega arith
word-short None = omega arith

-- the pieces of a line as they are put: number, tab, kind, what is said of it between tabs, how many children, line feed
abbrev pub pieces : Text → Heads → Said → ℕ → Text
pieces l h v n =
    part l (h.first + 1) h.second
    ++ (tab ∷ (part l (h.second + 1) h.third ++ (tab ∷ (word v ++ (tab ∷ (digits n ++ (line_feed ∷ [])))))))

module _ {l : Text} {h : Heads} {n : ℕ} (v : Said) (t : Three l h) (e : n ≡ length (children l)) where
  pub pieces_are : pieces l h v n ≡ listing_line l v ++ (line_feed ∷ [])
  pieces_are = rw (t.second_is, t.third_is, ← e) (simp append_assoc)

  -- how long it is, by the ends of its fields
  pub line-length : length (listing_line l v) ≡ (((h.third - h.first) - 1) + length (word v)) + length (digits n) + 2
  line-length =
      let a = part-size l (h.first + 1) h.second (omega (arith, t.ascending)) in
      let b = part-size l (h.second + 1) h.third (omega (arith, t.ascending)) in
      rw (t.second_is, t.third_is, ← e, length-append, length-append, length-append) (omega (arith, t.ascending, a, b))
