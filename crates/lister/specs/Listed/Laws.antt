-- A listing is refused exactly as the table says.
use mathlib.Core.{Path.◌≡◌, Path.refl, Logic.◌↔◌, Bool.Bool, Bool.true, Bool.false, Bool.cond}
use Rattle.std.specs.Prelude.{Result, Ok, Err, ℕ, ◌≤◌}
use Rattle.std.proofs.Common.{arith, leb-true, leb-false, le-leb}
use lib.{Dec.leb, ListN.length}
use Rattle.std.proofs.lemmas.Bool.{lt-leb}
use Rattle.fields.specs.{Tests.by-test, Bytes.Text, Split.lines}
use Rattle.fields.specs.declared.{fault.AtLine.AtLine, fault.CueFault.CueFault}
use Rattle.sheet.specs.{declared.sheet.SheetFault.SheetFault, Cues.cues_read, Sheet.sheet_outcome}
use Rattle.sheet.specs.{Refusal.SheetAnswers, Refusal.CuesAnswers}
use Rattle.sheet.proofs.Ends.{sheet-exactly, cues-exactly}
use Rattle.lister.specs.{Listing.listing, Listed.by_cues, Listed.by_sheet, Listed.by_room, Listed.listed, Listed.Lists}
use Rattle.lister.specs.declared.listing.ListFault.{ListFault, TheVariants.Sheet, TheVariants.Cues, TheVariants.TooLong}

module _ (s c : Text) (size : ℕ) where
  lists-by : (o : Result Unit (AtLine SheetFault)) → SheetAnswers s o → (r : Result ℕ (AtLine CueFault)) → CuesAnswers c r
      → Lists s c size (by_sheet o (by_cues r (by_room (listing s c) size)))
  lists-by (Err f) h r k = h
  lists-by (Ok _) h (Err f) k = (h, k)
  lists-by (Ok _) h (Ok n) k =
      by-test (leb (length (listing s c)) size)
      (λ e. rw e (h, k.0, leb-true _ _ e, refl))
      (λ e. rw e (h, k.0, leb-false _ _ e))

  lists-only : (r : Result ℕ ListFault) → Lists s c size r → listed s c size ≡ r
  lists-only (Err (Sheet f)) h = rw ((sheet-exactly s (Err f)).1 h)
  lists-only (Err (Cues f)) (h, k) = rw ((sheet-exactly s (Ok tt)).1 h, (cues-exactly c (Err f)).1 k)
  lists-only (Err TooLong) (h, k, i) = rw ((sheet-exactly s (Ok tt)).1 h, (cues-exactly c (Ok (length (lines c)))).1 (k, refl), lt-leb _ _ i)
  lists-only (Ok n) (h, k, i, e) = rw ((sheet-exactly s (Ok tt)).1 h, (cues-exactly c (Ok (length (lines c)))).1 (k, refl), le-leb _ _ i, e)

  pub listed-is : (r : Result ℕ ListFault) → (listed s c size ≡ r) ↔ Lists s c size r
  listed-is r =
      let listed-lists = lists-by (sheet_outcome s) ((sheet-exactly s (sheet_outcome s)).0 refl) (cues_read c) ((cues-exactly c (cues_read c)).0 refl) in
      (λ e. rw e at listed-lists, lists-only r)

-- what is written is no longer than the buffer
pub written-fits : (s c : Text) (room : ℕ) {n : ℕ} → Ok n ≡ listed s c room → n ≤ room
written-fits s c room {n} e =
    let m = length (listing s c) in
    go (sheet_outcome s) (cues_read c) (leb m room) m (leb-true m room) e
  where
    go : (o : Result Unit (AtLine SheetFault)) (q : Result ℕ (AtLine CueFault)) (t : Bool) (m : ℕ) → (t ≡ true → m ≤ room)
        → Ok n ≡ by_sheet o (by_cues q (cond t (Ok m) (Err TooLong))) → n ≤ room
    go (Err f) q t m h e = absurd (cc)
    go (Ok _) (Err f) t m h e = absurd (cc)
    go (Ok _) (Ok k) false m h e = absurd (cc)
    go (Ok _) (Ok k) true m h e = let z : n ≡ m = cc in omega (arith, z, h refl)
