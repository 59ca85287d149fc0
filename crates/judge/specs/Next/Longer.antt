-- A row with a name more: what the tests of membership and extendability say of it, by what they say of the row.
use mathlib.Core.{Path.◌≡◌, Path.refl, Path.sym, Path.◌∙◌, List.[], List.◌∷◌, List.◌++◌, List.append-nil}
use Rattle.std.specs.Prelude.{ℕ, suc, Bool, true, false, not, ◌&&◌, ◌||◌}
use Rattle.std.proofs.Common.{true≢false}
use Rattle.std.proofs.Math.Bool.{and_assoc, and_comm, and-true, and-false, or-true, or-false, or_self}
use Rattle.fields.specs.Tests.{by-test}
use Rattle.model.specs.Word.{Word, Names, Apart, only, either, count, touched, ordered}
use Rattle.model.specs.Types.{Operator, sequence, choice, interleaving, Ty, ε, atom, join, nonempty, symbols, ConflictFree}
use Rattle.model.specs.declared.rule.Upper.{Upper}
use Rattle.model.specs.Membership.{under, begun, done, alive, over?, holds?, extends?}
use Rattle.model.proofs.{WordLaws.apart-no, WordLaws.apart-sym, WordSpan.touched-more, WordSpan.count-more, MembershipLaws.done-tells}
use Rattle.model.specs.{Verdict.verdict_of, Verdict.verdict}
use Rattle.model.proofs.MembershipLaws.{alive-tells}
use Rattle.judge.specs.{Next.is_live, Next.may_come, Next.Ahead.first_open, Next.Ahead.second_open}

ordered-more : (p q : Names) (w : Word) (x : ℕ) → ordered p q (w ++ (x ∷ [])) ≡ (ordered p q w && not (p x && touched q w))
unfolding ordered touched
ordered-more p q [] x = by-test (q x) (λ e. rw (e, and-false)) (λ e. rw (e, and-false))
ordered-more p q (y ∷ w) x =
    by-test (q y)
    (λ e. rw (e, touched-more p w x) (by-test (touched p w) (λ t. rw t) (λ t. rw (t, and-true))))
    (λ e. rw e (ordered-more p q w x))

untouched-ordered : (p q : Names) (w : Word) → touched q w ≡ false → ordered p q w ≡ true
unfolding ordered touched
untouched-ordered p q [] t = refl
untouched-ordered p q (y ∷ w) t =
    by-test (q y) (λ e. absurd (true≢false (rw e at t))) (λ e. rw e (untouched-ordered p q w (rw e at t)))

over-longer : (p : Names) (w : Word) (x : ℕ) → over? p (w ++ (x ∷ [])) ≡ (over? p w && p x)
unfolding over?
over-longer p [] x = and-true (p x)
over-longer p (y ∷ w) x = by-test (p y) (λ e. rw e (over-longer p w x)) (λ e. rw e)

-- what is done can be made longer, by nothing
done-alive : (A : Ty) → ConflictFree A → (w : Word) → done A w ≡ true → alive A w ≡ true
done-alive A g w e = (alive-tells A g w).1 ([], rw append-nil ((done-tells A g w).0 e))

module _ (w : Word) (x : ℕ) where
  abbrev longer : Word
  longer = w ++ (x ∷ [])

  -- a set that lacks the name
  touched-other : (p : Names) → p x ≡ false → touched p longer ≡ touched p w
  touched-other p e = touched-more p w x ∙ rw (e, or-false)

  count-other : (a : ℕ) → only a x ≡ false → count a longer ≡ count a w
  count-other a e = count-more a w x ∙ rw e

  ordered-other : (p q : Names) → p x ≡ false → ordered p q longer ≡ ordered p q w
  ordered-other p q e = ordered-more p q w x ∙ rw (e, and-true)

  either-none : (p q : Names) → either p q x ≡ false → (p x ≡ false) × (q x ≡ false)
  unfolding either
  either-none p q e = by-test (p x) (λ f. absurd (true≢false (rw f at e))) (λ f. (f, rw f at e))

  -- and so a type that lacks it
  done-other : (A : Ty) → symbols A x ≡ false → done A longer ≡ done A w
  unfolding done
  done-other ε e = refl
  done-other (atom a m n) e = rw (count-other a e)
  done-other (join o A B) e =
      let (f, g) = either-none (symbols A) (symbols B) e in
      rw (
        ordered-other (symbols A) (symbols B) f,
        touched-other (symbols A) f,
        touched-other (symbols B) g,
        done-other A f,
        done-other B g,
      )
  done-other (nonempty A) e = rw (touched-other (symbols A) e, done-other A e)

  alive-other : (A : Ty) → symbols A x ≡ false → alive A longer ≡ alive A w
  unfolding alive
  alive-other ε e = refl
  alive-other (atom a m n) e = rw (count-other a e)
  alive-other (join o A B) e =
      let (f, g) = either-none (symbols A) (symbols B) e in
      rw (
        ordered-other (symbols A) (symbols B) f,
        touched-other (symbols A) f,
        touched-other (symbols B) g,
        done-other A f,
        alive-other A f,
        alive-other B g,
      )
  alive-other (nonempty A) e = alive-other A e

  -- Of a join, where the name is the first member's, and where it is the second's.
  module _ (A B : Ty) (d : Apart (symbols A) (symbols B)) where
    abbrev longer_alive : Operator → Bool
    longer_alive o =
        begun o (ordered (symbols A) (symbols B) longer) (touched (symbols A) longer) (touched (symbols B) longer)
        (done A longer) (alive A longer) (alive B longer)

    abbrev first : Operator → Bool
    first o = first_open o (touched (symbols B) w) (alive B w)

    abbrev second : Operator → Bool
    second o = second_open o (ordered (symbols A) (symbols B) w) (touched (symbols A) w) (done A w) (alive A w)

    first-comes : ConflictFree A → symbols A x ≡ true → (o : Operator) → longer_alive o ≡ (first o && alive A longer)
    first-comes g e o =
        let f = apart-no (symbols A) (symbols B) d x e in
        rw (ordered-more (symbols A) (symbols B) w x, touched-more (symbols A) w x, e, or-true, touched-other (symbols B) f, alive-other B f) (by_sign o)
      where
        by_sign : (o : Operator)
            → begun o (ordered (symbols A) (symbols B) w && not (touched (symbols B) w)) true (touched (symbols B) w)
            (done A longer) (alive A longer) (alive B w)
            ≡ (first o && alive A longer)
        by_sign sequence =
            by-test (touched (symbols B) w)
            (λ t. rw (t, and-false))
            (λ t. rw (t, untouched-ordered (symbols A) (symbols B) w t)
            (by-test (done A longer) (λ z. rw (z, done-alive A g longer z)) (λ z. rw (z, or-false))))
        by_sign choice = or-false _
        by_sign interleaving = and_comm (alive A longer) (alive B w)

    second-comes : symbols B x ≡ true → (o : Operator) → longer_alive o ≡ (second o && alive B longer)
    second-comes e o =
        let f = apart-no (symbols B) (symbols A) (apart-sym (symbols A) (symbols B) d) x e in
        rw (
          ordered-other (symbols A) (symbols B) f,
          touched-other (symbols A) f,
          touched-more (symbols B) w x,
          e,
          or-true,
          done-other A f,
          alive-other A f,
        ) (by_sign o)
      where
        by_sign : (o : Operator)
            → begun o (ordered (symbols A) (symbols B) w) (touched (symbols A) w) true (done A w) (alive A w) (alive B longer)
            ≡ (second o && alive B longer)
        by_sign sequence = sym (and_assoc (ordered (symbols A) (symbols B) w) (done A w) (alive B longer))
        by_sign choice = refl
        by_sign interleaving = refl

    -- both in one
    pub join-comes : ConflictFree A → (o : Operator)
        → (symbols (join o A B) x && alive (join o A B) longer)
        ≡ ((first o && (symbols A x && alive A longer)) || (second o && (symbols B x && alive B longer)))
    unfolding either alive
    join-comes g o =
        by-test (symbols A x)
        (λ e. let f = apart-no (symbols A) (symbols B) d x e in rw (e, f, first-comes g e o, and-false, or-false))
        (λ e. by-test (symbols B x)
        (λ f. rw (e, f, second-comes f o, and-false))
        (λ f. rw (e, f, and-false (first o), and-false (second o))))

  pub atom-comes : (a m : ℕ) (n : Upper) → (symbols (atom a m n) x && alive (atom a m n) longer) ≡ (under (suc (count a w)) n && only a x)
  unfolding alive
  atom-comes a m n =
      rw (count-more a w x) (by-test (only a x) (λ e. rw (e, and-true)) (λ e. rw (e, and-false)))

  -- a name may come just if no name of the row is foreign, it is one of the type's, and the row with it can be made longer
  pub may-come-is : (A : Ty) → ConflictFree A → may_come A w x ≡ (over? (symbols A) w && (symbols A x && alive A longer))
  unfolding may_come verdict holds? extends?
  may-come-is A g =
      rw (live-is, over-longer (symbols A) w x) (
      by-test (done A longer)
      (λ e. rw (e, done-alive A g longer e, and-true (over? (symbols A) w && symbols A x), and-true (symbols A x)) (or_self _))
      (λ e. rw (e, and-false) (and_assoc (over? (symbols A) w) (symbols A x) (alive A longer))))
    where
      live-is : (h e : Bool) → is_live (verdict_of h e) ≡ (h || e)
      live-is true e = refl
      live-is false true = refl
      live-is false false = refl
