-- A line of a tidied sheet: its model as `write_model` writes it, and the line by its pieces.
use mathlib.Core.{Path.◌≡◌, Path.refl, Path.sym, Path.ap, Path.◌∙◌, Bool.true}
use Rattle.std.specs.Prelude.{List, [], ◌∷◌, ◌++◌, ℕ, ◌+◌, ◌-◌, ◌≤◌, ◌<◌, length, take, drop, get_or, Result, Ok}
use Rattle.std.proofs.Common.{append_assoc, append-nil, arith, length-append, length-take, length-drop}
use lib.{Seq.take_at, Seq.drop_at}
use borrow.{Author.Tests.le-leb, Rule.Slice.PartMut.put_mid}
use Rattle.fields.specs.{Tests.tells-le, Tests.tells-and, Bytes.Text, Bytes.is_name, Bytes.bytes, Limits.max_name, Children.short_name}
use Rattle.fields.specs.{Split.joined_by, Split.Laws.joined-split}
use Rattle.fields.specs.{declared.split.Heads.Heads, Heads.heads_of, Heads.Laws.Three, Heads.Laws.fields-enough}
use Rattle.fields.specs.Split.{line_feed, tab, fields, field, part}
use Rattle.fields.specs.Put.{Put, Begun, put_end, put_at, Laws.put-fits, Laws.put-length, Laws.put_first, Laws.begun_all, Laws.piece-put}
use Rattle.model.specs.{Fault.accepted, Accept.Length.text-short}
use Rattle.model.proofs.AcceptLaws.{accepted-within}
use Rattle.judge.specs.Answer.{answer, answer-is}
use Rattle.sheet.specs.{Sheet.kind, Sheet.model}
use Rattle.sheet.proofs.{SheetLaws.part-size, SheetGood.Accepted}
use Rattle.canonical.specs.{declared.fault.Unwritten.Unwritten, Canonical.canonical}
use Rattle.canonical.specs.Canonical.{write_reply, wrote, written_of, Accepted.canonical-formed, Accepted.canonical-within}
use Rattle.tidying.specs.Tidying.{tidy_model, tidy_line}

-- a model text that is accepted, and room for what it is written as
pub record ModelReady (m : Text) (k : ℕ) : Type 0 where
  pub is_accepted : Accepted m
  pub fits : length (tidy_model m) ≤ k

module _ {m : Text} (a : Accepted m) where
  pub tree_is : answer m ≡ accepted a.0
  tree_is = sym (answer-is m (accepted a.0) a.1)

  model-short : length (tidy_model m) < 3328
  model-short =
      let t = a.0 in
      let formed = a.1.1.formed in
      rw tree_is (text-short (canonical t) (canonical-formed t formed) (canonical-within t formed (accepted-within m t a.1)))

  reply-is : (k : ℕ) → length (tidy_model m) ≤ k → write_reply m k ≡ wrote (tidy_model m)
  reply-is k h = let fits = le-leb (length (tidy_model m)) k h in rw (tree_is, rw tree_is at fits)

-- what `write_model` answers of such a text
module _ (old : Text) {m : Text} {w : Result ℕ Unwritten} (r : ModelReady m (length old)) (answered : w ≡ written_of (write_reply m (length old))) where
  written : write_reply m (length old) ≡ wrote (tidy_model m)
  written = reply-is r.is_accepted (length old) r.fits

  pub answered-so : w ≡ Ok (length (tidy_model m))
  answered-so = answered ∙ ap written_of written

-- a write at the beginning, and one into the part of the buffer behind it
pub put-behind : {old mid y : Text} {s t : Text} {a n : ℕ} → Put old mid 0 s a → Put (take (length mid - a) (drop a mid)) y 0 t n
    → Put old (put_mid a (length mid - a) mid y) 0 (s ++ t) (a + n)
put-behind {old} {mid} {y} {s} {t} {a} {n} p q =
    let k = put-length p in
    let f = put_first p in
    let room : length t ≤ length mid - a = omega (arith, q.fits, length-take (length mid - a) (drop a mid), length-drop a mid) in
    let sum = length-append s t in
    let g : Begun old mid (s ++ t) a (t ++ []) = record {
      room = omega (arith, p.fits);
      inside = omega arith;
      ahead = drop_at s t a (sym f.0) ∙ sym (append-nil t);
      so_far = f.1 ∙ ap (λ z. z ++ drop a old) (sym (take_at s t a (sym f.0)));
    } in
    let all = begun_all (piece-put t [] g q) in
    record { fits = all.fits; end_is = omega (arith, q.end_is); text_is = all.text_is }

three-parts : (ps : List Text) → length ps ≡ 3 → ps ≡ get_or ps 0 [] ∷ (get_or ps 1 [] ∷ (get_or ps 2 [] ∷ []))
three-parts (a ∷ b ∷ c ∷ []) e = refl
three-parts [] e = absurd (omega (arith, e))
three-parts (a ∷ []) e = absurd (omega (arith, e))
three-parts (a ∷ b ∷ []) e = absurd (omega (arith, e))
three-parts (a ∷ b ∷ c ∷ d ∷ ps) e = absurd (omega (arith, e))

-- a line of a sheet that was read
pub record RuleFits (l : Text) : Type 0 where
  pub three : length (fields l) ≡ 3
  pub word : field 0 l ≡ bytes "rule"
  pub named : short_name (kind l) ≡ true
  pub is_accepted : Accepted (model l)

-- what stands before its model
abbrev head : Text → Text
head l = bytes "rule" ++ (tab ∷ (kind l ++ (tab ∷ [])))

module _ {l : Text} (r : RuleFits l) where
  pub fields-are : fields l ≡ bytes "rule" ∷ (kind l ∷ (model l ∷ []))
  fields-are = three-parts (fields l) r.three ∙ ap (λ w. w ∷ (kind l ∷ (model l ∷ []))) r.word

  line_is : l ≡ head l ++ model l
  line_is =
      sym (joined-split tab l) ∙ ap (joined_by tab) fields-are
      ∙ ap (λ z. bytes "rule" ++ (tab ∷ z)) (sym (append_assoc (kind l) (tab ∷ []) (model l)))

  pub kind-named : (is_name (kind l) ≡ true) × (length (kind l) ≤ max_name)
  kind-named = (tells-and (is_name (kind l)) _ (λ e. e, λ e. e) (tells-le (length (kind l)) max_name)).0 r.named

  pub rule-short : length (tidy_line l) ≤ 4096
  rule-short = rw (length-append (kind l), length-append (tidy_model (model l))) (omega (arith, kind-named.1, model-short r.is_accepted))

  -- by the ends of its fields
  module _ {h : Heads} (e : h ≡ heads_of l) where
    pub rule-three : Three l h
    rule-three = fields-enough l h e (omega (arith, r.three))

    start_is : h.second + 1 ≡ length (head l)
    start_is =
        let t = rule-three in
        let a = part-size l 0 h.first (omega (arith, t.ascending)) in
        let b = part-size l (h.first + 1) h.second (omega (arith, t.ascending)) in
        rw (length-append (kind l))
        (omega (arith, t.ascending, a, ap length (sym t.first_is ∙ r.word), b, ap length t.second_is))

    head-is : take (h.second + 1) l ≡ head l
    head-is = ap (take (h.second + 1)) line_is ∙ take_at (head l) (model l) (h.second + 1) (omega (arith, start_is))

    pub rule-pieces : (take (h.second + 1) l ++ tidy_model (part l (h.second + 1) h.third)) ++ (line_feed ∷ []) ≡ tidy_line l
    rule-pieces =
        ap (λ m. (take (h.second + 1) l ++ tidy_model m) ++ (line_feed ∷ [])) (sym rule-three.third_is)
        ∙ ap (λ w. (w ++ tidy_model (model l)) ++ (line_feed ∷ [])) head-is
        ∙ regrouped (bytes "rule") (kind l) (tidy_model (model l))
      where
        regrouped : (a b c : Text) → ((a ++ (tab ∷ (b ++ (tab ∷ [])))) ++ c) ++ (line_feed ∷ []) ≡ a ++ (tab ∷ (b ++ (tab ∷ (c ++ (line_feed ∷ [])))))
        regrouped a b c = simp append_assoc

    pub start-length : length (take (h.second + 1) l) ≡ h.second + 1
    start-length = rw length-take (omega (arith, rule-three.ascending))

    pub rule-sum : length (tidy_line l) ≡ ((h.second + 1) + length (tidy_model (part l (h.second + 1) h.third))) + 1
    rule-sum =
        ap length (sym rule-pieces) ∙ rw (length-append, length-append) (omega (arith, start-length))

    pub rule-ready : {k : ℕ} → length (tidy_model (part l (h.second + 1) h.third)) ≤ k → ModelReady (part l (h.second + 1) h.third) k
    rule-ready f = record { is_accepted = rw rule-three.third_is at r.is_accepted; fits = f }

    -- what stands before the model is put
    pub head-put : {old mid : Text} {a : ℕ} → length (tidy_line l) ≤ length old → a ≡ put_end old 0 (take (h.second + 1) l)
        → mid ≡ put_at old 0 (take (h.second + 1) l) → Put old mid 0 (take (h.second + 1) l) a
    head-put {old} {mid} {a} f i t = put-fits old mid 0 (take (h.second + 1) l) a (rw length-take (omega (arith, f, rule-sum))) i t
