-- How a listing is made: what is said of a cue, and the lines one behind the other.
use mathlib.Core.{Bool.true, List.List, List.[], List.◌∷◌, List.◌++◌, List.map, List.map-append}
use Rattle.std.specs.Prelude.{Ok, ◌≡◌, refl, Option, Some, None, length, take, drop, get_or, set}
use Rattle.std.proofs.Math.Path.{ap, sym}
use Rattle.std.proofs.Common.{ap₂, subst, ◌∙◌, length-take, length-drop, length-append, take-suc, take-suc-set}
use Rattle.std.specs.Result.{result_unwrap_or}
use Rattle.std.specs.Option.{SomeIff}
use Rattle.std.specs.List.{All, filter}
use Prim.Native.Nat.{ℕ, zero, suc, ◌+◌, ◌*◌, ◌-◌, ◌≤◌, ◌<◌}
use native.Mathlib.{Omega.arith, Numerals.add-one}
use Rattle.std.proofs.lemmas.List.{length-map}
use Rattle.std.proofs.Math.Seq.{take-length}
use borrow.Author.Tests.{le-leb, le-ltb, lt-ltb}
use Rattle.fields.specs.{Tests.by-test, Bytes.Text, Bytes.same_text, Bytes.Laws.T_true, Limits.max_row, Limits.max_file}
use Rattle.fields.specs.{declared.split.Heads.Heads, Heads.heads_of, Children.all_names, Bytes.Numeral.digits-length, Heads.Laws.Three, Heads.Laws.more-none}
use Rattle.fields.specs.Split.{line_feed, tab, split, lines, unlines, field, part, Laws.part-rest, Joined.unlines-snoc, Times.lines-few}
use Rattle.fields.specs.Put.{Put, PutWhole, put_end, put_at, Laws.put-length, Laws.put-fits, Laws.put_then}
use Rattle.judge.specs.{declared.reading.NamePlace.NamePlace, Reading.part_at, Reading.parts_of}
use Rattle.judge.specs.Reply.{children_in, row, reply_by, row_in, children_reply, judged_of}
use Rattle.model.specs.{Syntax.number_in, Fault.Answer, Fault.refused, Fault.accepted, Model.model_of, Model.type_of, Verdict.verdict}
use Rattle.model.specs.declared.verdict.Verdict.TheVariants.{Dead}
use Rattle.judge.specs.Answer.{answer}
use Rattle.model.specs.{Syntax.Number.number-below}
use Rattle.sheet.specs.{declared.sheet.Entry.Entry, declared.sheet.Sheet.Sheet}
use Rattle.sheet.proofs.Ends.{cues-exactly}
use Rattle.sheet.specs.Cues.{children, cues_read, CueFits, Good.good-cues, Laws.cue-three, Walk.GoodCues}
use Rattle.sheet.specs.Sheet.{kind, sheet_outcome}
use Rattle.sheet.specs.Sheet.Line.{Loaded}
use Rattle.lister.specs.Listing.{Said, word, times_among, listing_line, total_line, said_by, said_of, said, listing, Laws.line-length, Laws.word-short}
use Rattle.lister.specs.{Listed.by_room, Listed.listed}
use Rattle.lister.specs.Making.{before, lines_said, max_line, listing_said, CueGood, CueReady, CuesSaid, SaidUpTo}

-- of children that are good, the judge's answer says what the model says
said-judged : (m c : Text) → length c ≤ max_file → all_names (children_in c) ≡ true → length (children_in c) ≤ max_row
    → Some (result_unwrap_or (judged_of (children_reply m c)) Dead) ≡ said_of m (children_in c)
unfolding children_reply
said-judged m c k n h = go (answer m)
  where
    go : (a : Answer)
        → Some (result_unwrap_or (judged_of (reply_by row (λ t. verdict (type_of (model_of t)) (row_in t c)) c a)) Dead) ≡ said_by a (children_in c)
    go (refused f p) = refl
    go (accepted t) = rw (le-ltb max_file (length c) k, n, le-leb (length (children_in c)) max_row h)

-- no field is no name
children-in : (c : Text) → all_names (split tab c) ≡ true → children_in c ≡ split tab c
children-in [] n = cc n
children-in (b ∷ c) n = refl

-- what the model m says of a cue line
module _ {s m : Text} {p : NamePlace} {l : Text} {h : Heads} (r : CueReady s p l) (e : m ≡ part_at s p) (i : h ≡ heads_of l) where
  ready-three : Three l h
  ready-three = cue-three i r.good.fits

  ready-named : all_names (children l) ≡ true
  ready-named = T_true (all_names (children l)) r.good.named

  say : (c : Text) → children_in c ≡ children l → length c ≤ length l
      → Some (result_unwrap_or (judged_of (children_reply m c)) Dead) ≡ said_of (part_at s p) (children l)
  say c q k =
      said-judged m c (omega (arith, r.good.fits.short)) (ap all_names q ∙ ready-named) (omega (arith, ap length q, r.good.fits.few)) ∙ ap₂ said_of e q

  pub say-none : length l ≤ h.third → Some (result_unwrap_or (judged_of (children_reply m [])) Dead) ≡ said_of (part_at s p) (children l)
  say-none k = say [] (sym (ready-three.behind_is ∙ more-none l h.third k)) (omega arith)

  pub say-some : h.third < length l
      → Some (result_unwrap_or (judged_of (children_reply m (part l (h.third + 1) (length l)))) Dead) ≡ said_of (part_at s p) (children l)
  say-some k =
      let c = part l (h.third + 1) (length l) in
      let q : children l ≡ split tab c = ready-three.behind_is ∙ rw (lt-ltb h.third (length l) k, part-rest l (h.third + 1), add-one) in
      say c (children-in c (ap all_names (sym q) ∙ ready-named) ∙ sym q) (rw (length-take, length-drop) (omega arith))

pub part-at-place : (s : Text) (p : NamePlace) → part s p.start (p.start + p.len) ≡ part_at s p
part-at-place s p = let e : (p.start + p.len) - p.start ≡ p.len = omega arith in ap (λ n. take n (drop p.start s)) e

pub before-checked : (n : ℕ) {r : Option ℕ} → SomeIff r (1 ≤ n) (n - 1) → r ≡ before n
before-checked n {r} h = go n r h
  where
    go : (n : ℕ) (r : Option ℕ) → SomeIff r (1 ≤ n) (n - 1) → r ≡ before n
    go zero None h = refl
    go zero (Some k) h = absurd (omega (arith, h.0))
    go (suc n) None h = absurd (h (omega arith))
    go (suc n) (Some k) h = let z : k ≡ n = omega (arith, h.1) in ap Some z

-- what the sheet says of a cue, by the line of its kind
module _ {s : Text} {r : Sheet} (w : Loaded s r) (l : Text) where
  number_is : number_in (parts_of s r.kinds) (field 2 l) ≡ number_in (map kind (lines s)) (field 2 l)
  number_is = ap (λ ks. number_in ks (field 2 l)) w.kinds_are

  module _ {k : ℕ} (e : before (number_in (parts_of s r.kinds) (field 2 l)) ≡ Some k) where
    number-suc : number_in (map kind (lines s)) (field 2 l) ≡ suc k
    number-suc = go (number_in (map kind (lines s)) (field 2 l)) (rw number_is at e)
      where
        go : (n : ℕ) → before n ≡ Some k → n ≡ suc k
        go zero e = cc e
        go (suc j) e = let z : j ≡ k = cc e in ap suc z

    pub line-inside : k < length (lines s)
    line-inside = omega (arith, number-suc, number-below 0 (map kind (lines s)) (field 2 l), length-map (lines s) kind)

    pub line-few : k < 64
    line-few = omega (arith, line-inside, w.few)

    pub line-ready : CueGood l → (d : Entry) → CueReady s (get_or r.entries k d).model l
    line-ready g d = record { inside = (w.entries_good k d line-inside).inside; good = g }

    pub said-line : (d : Entry) {v : Said} → v ≡ said_of (part_at s (get_or r.entries k d).model) (children l) → v ≡ said (lines s) l
    said-line d q = q ∙ rw (number-suc, (w.entries_good k d line-inside).model_is)

-- the lines of a cue list that was read
pub list-counted : (c : Text) {n : ℕ} → cues_read c ≡ Ok n → (n ≡ length (lines c)) × (length (lines c) ≤ max_file)
list-counted c {n} k = (((cues-exactly c (Ok n)).0 k).1, omega (arith, lines-few c, (good-cues c n k).short))

pub good-all : (c : Text) → GoodCues c → All CueGood (lines c)
good-all c g = go (lines c) (λ i h. record { fits = g.fit i h; named = g.named i h })
  where
    go : (ls : List Text) → ((i : ℕ) → i < length ls → CueGood (get_or ls i [])) → (k : ℕ) (d : Text) → k < length ls → CueGood (get_or ls k d)
    go [] h k d o = absurd (omega arith)
    go (l ∷ ls) h zero d o = h 0 (omega arith)
    go (l ∷ ls) h (suc k) d o = go ls (λ i q. h (suc i) (omega arith)) k d (omega arith)

-- one cue more
pub said_set : (s c : Text) (vs : List Said) (n : ℕ) {v : Said} → n < length vs → n < length (lines c) → SaidUpTo n s c vs
    → v ≡ said (lines s) (get_or (lines c) n []) → SaidUpTo (n + 1) s c (set vs n v)
said_set s c vs n o k h e =
    rw (add-one, take-suc-set vs n _ o, take-suc (lines c) n [] k, map-append, h, e)

-- a line and the lines behind it
pub line-short : {l : Text} (v : Said) → CueFits l → length (listing_line l v) + 1 ≤ max_line
line-short {l} v f =
    let t = cue-three {l = l} {h = heads_of l} refl f in
    omega (arith, line-length v t refl, t.ascending, word-short v, digits-length 4 (length (children l)) (omega (arith, f.few)), f.short)

pub lines-short : (vs : List Said) (ls : List Text) → All CueFits ls → length (unlines (lines_said vs ls)) ≤ length ls * max_line
lines-short vs [] h = omega arith
lines-short [] (l ∷ ls) h = omega arith
lines-short (v ∷ vs) (l ∷ ls) h =
    omega (
      arith,
      length-append (listing_line l v ++ (line_feed ∷ [])) (unlines (lines_said vs ls)),
      length-append (listing_line l v) (line_feed ∷ []),
      line-short v (h 0 l (omega arith)),
      lines-short vs ls (λ k d o. h (suc k) d (omega arith)),
    )

-- a walk over lines and what is said of them: the next, and when none is left
module _ {ls ks : List Text} {l : Text} (e : ls ≡ l ∷ ks) where
  pub fit-next : All CueFits ls → CueFits l
  fit-next h = (rw e at h) 0 l (omega arith)

  pub fit-rest : All CueFits ls → All CueFits ks
  fit-rest h = λ k d o. (rw e at h) (suc k) d (omega arith)

  module _ {vs us : List Said} {v : Said} (f : vs ≡ v ∷ us) where
    pub said-next : unlines (lines_said vs ls) ≡ (listing_line l v ++ (line_feed ∷ [])) ++ unlines (lines_said us ks)
    said-next = rw (e, f)

    pub next-length : length (unlines (lines_said vs ls)) ≡ length (listing_line l v) + 1 + length (unlines (lines_said us ks))
    next-length =
        omega (
          arith,
          ap length said-next,
          length-append (listing_line l v ++ (line_feed ∷ [])) (unlines (lines_said us ks)),
          length-append (listing_line l v) (line_feed ∷ []),
        )

pub none-left : (vs : List Said) {ls : List Text} → ls ≡ [] → unlines (lines_said vs ls) ≡ []
none-left vs e = rw e

pub none_said : (vs : List Said) (ls : List Text) → length vs ≡ 0 → unlines (lines_said vs ls) ≡ []
none_said [] [] e = refl
none_said [] (l ∷ ls) e = refl
none_said (v ∷ vs) ls e = absurd (omega arith)

-- how often a word is said
pub times-said : (w : Text) (vs : List Said) → length (filter (λ v. same_text (word v) w) vs) ≡ times_among w (map word vs)
times-said w [] = refl
times-said w (v ∷ vs) = by-test (same_text (word v) w) (λ e. rw e (ap suc (times-said w vs))) (λ e. rw e (times-said w vs))

words-said : (f : Text → Said) (ls : List Text) → map word (map f ls) ≡ map (λ l. word (f l)) ls
words-said f [] = refl
words-said f (l ∷ ls) = ap (λ ws. word (f l) ∷ ws) (words-said f ls)

lines-said : (f : Text → Said) (ls : List Text) → lines_said (map f ls) ls ≡ map (λ l. listing_line l (f l)) ls
lines-said f [] = refl
lines-said f (l ∷ ls) = ap (λ xs. listing_line l (f l) ∷ xs) (lines-said f ls)

-- what is said of all cues
pub said-all : (s c : Text) (vs : List Said) {n : ℕ} → SaidUpTo (length (lines c)) s c vs → n ≡ length (lines c)
    → take n vs ≡ map (said (lines s)) (lines c)
said-all s c vs h e = rw e (h ∙ ap (map (said (lines s))) (take-length (lines c)))

module _ (s c : Text) {vs : List Said} (e : vs ≡ map (said (lines s)) (lines c)) where
  pub listing-said : listing_said vs c ≡ listing s c
  listing-said =
      rw (e, words-said (said (lines s)) (lines c), lines-said (said (lines s)) (lines c))
      (sym (unlines-snoc (map (λ l. listing_line l (said (lines s) l)) (lines c)) (total_line (map (λ l. word (said (lines s) l)) (lines c)))))

  pub cues-said : GoodCues c → length (lines c) ≤ max_file → CuesSaid c vs
  cues-said g k = record { fit = λ k d o. (good-all c g k d o).fits; few = k; counted = ap length e ∙ length-map (lines c) (said (lines s)) }

-- what the listing of a sheet and a list that were read is answered
pub listed-room : (s c : Text) (room : ℕ) {n : ℕ} → sheet_outcome s ≡ Ok tt → cues_read c ≡ Ok n → by_room (listing s c) room ≡ listed s c room
listed-room s c room e k = rw (e, k)

-- a text that is put behind another, at the place that is that one's length
pub written_behind : {old mid new : Text} (x y z : Text) {at end : ℕ} → PutWhole old mid x → at ≡ length x → z ≡ y → at + length y ≤ length old
    → end ≡ put_end mid at z → new ≡ put_at mid at z → Put old new 0 (x ++ y) end
written_behind {old} {mid} {new} x y z {at} {end} p e f h g t =
    let q = put-fits mid new at y end (omega (arith, put-length p)) (g ∙ ap (put_end mid at) f) (t ∙ ap (put_at mid at) f) in
    put_then p (subst (λ n. Put mid new n y end) e q)
