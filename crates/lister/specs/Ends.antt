-- The ends: when a listing is refused, by the table; what it says of each cue, by the meaning of the models; what its last line says of the others.
-- Each proof is a citation.
use mathlib.Core.{Path.◌≡◌, Logic.◌↔◌, List.[], List.◌∷◌, List.map}
use Rattle.std.specs.Prelude.{Result, Ok, ℕ, length}
use Rattle.fields.specs.{Bytes.Text, Bytes.bytes}
use Rattle.fields.specs.Split.{tab, joined_by, but_last, last, lines, behind, unlines, fields, field}
use Rattle.sheet.specs.Sheet.{sheet_outcome}
use Rattle.lister.specs.declared.listing.ListFault.{ListFault}
use Rattle.lister.specs.{Listing.Said, Listing.said, Listed.listed, Listed.Lists, Listed.Laws.listed-is}
use Rattle.lister.specs.{Said.CueSaid, Said.Laws.cue-is}
use Rattle.lister.specs.Listing.{listing_fields, listing_line, listing_lines, listing, Totals}
use Rattle.lister.specs.Listing.Lines.{lines_are, line-fields, totals-are, above-count, none-are}

-- Demand 1, listing: the sheet's refusal, else the list's, else 50 where the listing is longer than the buffer, else its length.
pub listed-exactly : (s c : Text) (size : ℕ) (r : Result ℕ ListFault) → (listed s c size ≡ r) ↔ Lists s c size r
listed-exactly = listed-is

-- Demand 2, listing: of each cue line it says what the meaning of its kind's model says of its children, or that the sheet lacks the kind.
pub cue-said : (s : Text) → sheet_outcome s ≡ Ok tt → (l : Text) (a : Said) → (said (lines s) l ≡ a) ↔ CueSaid (lines s) l a
cue-said = cue-is

-- W6. The lines are one for each cue line, in order, and the last; nothing stands behind its line feed.
pub lines-exactly : (s c : Text) → (lines (listing s c) ≡ listing_lines (lines s) (lines c)) × (behind (listing s c) ≡ [])
lines-exactly = lines_are

-- A line has just the fields that it is made of.
pub fields-exactly : (l : Text) (a : Said) → fields (listing_line l a) ≡ listing_fields l a
fields-exactly = line-fields

-- The last is `total`, how many stand above it, and how many of those have complete, open, dead and nosheet as their third field; the four add to the
-- first.
pub total-exactly : (s c : Text) → Totals (map (field 2) (but_last (lines (listing s c)))) (last (lines (listing s c)))
total-exactly = totals-are

-- As many stand above it as there are cues.
pub cues-counted : (s c : Text) → length (but_last (lines (listing s c))) ≡ length (lines c)
cues-counted = above-count

-- Of no cues it says `total` and five zeros.
pub none-listed : (s : Text)
    → listing s [] ≡ unlines (joined_by tab (bytes "total" ∷ (bytes "0" ∷ (bytes "0" ∷ (bytes "0" ∷ (bytes "0" ∷ (bytes "0" ∷ [])))))) ∷ [])
none-listed = none-are
