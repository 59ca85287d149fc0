-- The book is a function of what it is fed: it gives one reply to each call, and there is one book after it.
use mathlib.Core.{Path.◌≡◌, Path.refl, Path.sym, Path.ap, Path.◌∙◌, Logic.◌↔◌, List.List, List.[], List.◌∷◌, List.◌++◌}
use Rattle.std.specs.Prelude.{ℕ, length}
use Rattle.std.proofs.Common.{arith}
use Rattle.std.proofs.lemmas.List.{length_push, same_from_push}
use Rattle.model.specs.{declared.rule.Rule.Rule, Word.Word, Types.Ty, Rule.Means, Rule.names, Rule.rule_type, Rule.Laws.means-once}
use Rattle.model.proofs.VerdictLaws.{says-once}
use Rattle.model.proofs.CheckExact.{means-type, means-conflict-free}
use Rattle.judge.specs.{Next.NextNames, Next.next_names, Next.Laws.list-exactly}
use Rattle.sessions.specs.Book.{Call, taking_back, CallReply, says, lists, nothing, Book, book, Enters, not_opened, opens, not_named, no_space, adds}
use Rattle.sessions.specs.Book.{none_to_take, takes, asks, not_listed, lists_next, Keeps, done, next}

-- no word that ends in x is empty
pub ends-not-empty : (w : Word) (x : ℕ) → ¬ w ++ (x ∷ []) ≡ []
ends-not-empty w x e = omega (arith, length_push w x, ap length e)

-- the names that may come next, by any type that the rule means
pub rule-lists : {r : Rule} {A : Ty} {w l : Word} → Means r A → (next_names (rule_type r) (names r) w ≡ l) ↔ NextNames A (names r) w l
rule-lists {r} {A} {w} {l} m = rw (← means-type m) (list-exactly A (means-conflict-free m) (names r) w l)

same-list : {r q : Rule} {A B : Ty} {v w l k : Word} → book r v ≡ book q w → Means r A → NextNames A (names r) v l
    → Means q B → NextNames B (names q) w k → l ≡ k
same-list e m h i j =
    sym ((rule-lists m).1 h) ∙ ap (λ (b : Book). next_names (rule_type b.rule) (names b.rule) b.row) e ∙ (rule-lists i).1 j

module _ {n : ℕ} where
  enters-same : {b b' c d : Book} {q : Call} {a a' : CallReply} → b ≡ b' → Enters n b q a c → Enters n b' q a' d → (a ≡ a') × (c ≡ d)
  enters-same e (not_opened h) (not_opened k) = (refl, e)
  enters-same e (not_opened h) (opens k) = absurd (h k)
  enters-same e (opens h) (not_opened k) = absurd (k h)
  enters-same e (opens h) (opens k) = (refl, refl)
  enters-same e (not_named h) (not_named k) = (refl, e)
  enters-same e (not_named h) (no_space k l) = let i = ap (λ (b : Book). names b.rule) e in absurd (omega arith)
  enters-same e (not_named h) (adds k l) = let i = ap (λ (b : Book). names b.rule) e in absurd (omega arith)
  enters-same e (no_space h i) (not_named k) = let j = ap (λ (b : Book). names b.rule) e in absurd (omega arith)
  enters-same e (no_space h i) (no_space k l) = (refl, e)
  enters-same e (no_space h i) (adds k l) = absurd (l (sym (ap (λ (b : Book). length b.row) e) ∙ i))
  enters-same e (adds h i) (not_named k) = let j = ap (λ (b : Book). names b.rule) e in absurd (omega arith)
  enters-same e (adds h i) (no_space k l) = absurd (i (ap (λ (b : Book). length b.row) e ∙ l))
  enters-same e (adds {x = x} h i) (adds k l) = (refl, ap (λ (b : Book). book b.rule (b.row ++ (x ∷ []))) e)
  enters-same e none_to_take none_to_take = (refl, e)
  enters-same e none_to_take (takes {w = w} x) = absurd (ends-not-empty w x (sym (ap (λ (b : Book). b.row) e)))
  enters-same e (takes {w = w} x) none_to_take = absurd (ends-not-empty w x (ap (λ (b : Book). b.row) e))
  enters-same e (takes {w = v} x) (takes {w = w} y) =
      let (i, k) = same_from_push v w x y (ap (λ (b : Book). b.row) e) in
      let j = ap (λ (b : Book). b.rule) e in (refl, cc)
  enters-same e (asks {w = w} {A = A} {v = u} m h) (asks {v = v} m' k) =
      let a = means-once m (rw (sym (ap (λ (b : Book). b.rule) e)) at m') in
      (ap says (says-once A w u v h (rw (sym a, sym (ap (λ (b : Book). b.row) e)) at k)), e)
  enters-same e (not_listed m h i) (not_listed m' k j) = (refl, e)
  enters-same e (not_listed m h i) (lists_next m' k j) = absurd (omega (arith, ap length (same-list e m h m' k)))
  enters-same e (lists_next m h i) (not_listed m' k j) = absurd (omega (arith, ap length (same-list e m h m' k)))
  enters-same e (lists_next m h i) (lists_next m' k j) = (ap lists (same-list e m h m' k), e)

  -- the last number goes
  pub takes-last : {r : Rule} (u w : Word) (x : ℕ) → u ≡ w ++ (x ∷ []) → Enters n (book r u) taking_back nothing (book r w)
  takes-last u w x e = rw e (takes x)

  pub enters-once : {b c d : Book} {q : Call} {a a' : CallReply} → Enters n b q a c → Enters n b q a' d → (a ≡ a') × (c ≡ d)
  enters-once h k = enters-same refl h k

  pub keeps-once : {b c d : Book} {qs : List Call} {rs rs' : List CallReply} → Keeps n b qs rs c → Keeps n b qs rs' d → (rs ≡ rs') × (c ≡ d)
  keeps-once done done = (refl, refl)
  keeps-once (next h hs) (next k ks) =
      let e = enters-once h k in
      let i = keeps-once hs (rw (sym e.1) at ks) in (cc, i.1)
