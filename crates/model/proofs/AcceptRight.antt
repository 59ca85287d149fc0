-- 13 and 18: the counts of a tree are right and its marks fit just where neither fault stands in its text. The automaton's states hold what was read, so
-- each byte tells.
use mathlib.Core.Logic.Iff
use mathlib.Core.{Logic.◌↔◌, Logic.⊎_elim, Logic.by_cases}
use Rattle.std.specs.Prelude.{true, false, not, ◌&&◌, ◌||◌, ◌≡◌, refl, length, take, drop, get_or}
use Rattle.std.proofs.Math.Bool.{or-false, not-not}
use Rattle.std.proofs.Common.{sym, ap, ◌∙◌, take-append-drop}
use Rattle.std.proofs.Math.Path.{subst}
use mathlib.Core.List.Memᴰ
use mathlib.Core.List.{List, [], ◌∷◌, Memᴰ}
use Prim.Native.{Nat.ℕ, Nat.zero, Nat.suc, Nat.◌≤◌, Nat.◌<◌, Char.code}
use native.Mathlib.{Decide.ℕ_discrete, Omega.arith}
use lib.{Dec.T, Dec.eqb, Seq.take-length}
use Rattle.std.proofs.Math.Facts.{and_yes}
use Rattle.fields.specs.{Tests.fails, Tests.neither, Tests.tells-not, Tests.tells-or, Bytes.Laws.cond_cases, Bytes.Laws.T_true}
use Rattle.fields.specs.Bytes.{Text, is_initial, is_digit, is_inner}
use Rattle.model.specs.Tree.{Node, leaf, group, marked, Members, none, ◌▹◌, node_leaves, leaves, members_leaves, node_weight, Formed, is_plain, mark_fits}
use Rattle.model.specs.Tree.{NodeMarksFit, MarksFit, MembersMarksFit}
use Rattle.model.specs.declared.rule.Mark.TheVariants.{Plain, Optional, Nonempty}
use Rattle.model.specs.{Mark.mark_of, Mark.Laws.is-plain}
use Rattle.model.specs.Syntax.{Count, unwritten, between, onward, Spelling, Syntax, SpellingFormed, Begins, text}
use Rattle.model.specs.Syntax.Machine.{snoc, byte_of, bare, Frame, opened, signed, CountPart, low, dot, dots, high, star, Focus, expect, naming, counting}
use Rattle.model.specs.Syntax.Machine.{after, State, dead, at, Alive, close, shut, grows, some_digit, step_count, step_after, step, run, start, here}
use Rattle.model.specs.{Syntax.Sound.sign-cases}
use Rattle.model.proofs.SyntaxComplete.{focus_behind, behind_atom, tree-run}
use Rattle.model.specs.{Syntax.Counters.run_take, Syntax.Counters.alive-before, Fault.wrong, Fault.EndsWrong, Fault.EndsEmpty}
use Rattle.model.proofs.FaultDecide.{ends_wrong, ends_empty, ends_bad, ends-wrong, wrong-ends, ends-empty, empty-ends}

-- no count is wrong, and each mark fits
abbrev mutual
  NodeRight : Node Spelling → Type 0
  NodeRight (leaf a) = wrong a.count ≡ false
  NodeRight (group s ts) = MembersRight ts

  pub TreeRight : Syntax → Type 0
  TreeRight (marked m n) = (mark_fits m (node_weight 1 0 n) ≡ true) × NodeRight n

  MembersRight : Members Spelling → Type 0
  MembersRight none = Unit {0}
  MembersRight (t ▹ ts) = TreeRight t × MembersRight ts

-- the same, each by itself, as `Within` says it
abbrev EachRight : List Spelling → Type 0
EachRight l = (a : Spelling) → Memᴰ a l → wrong a.count ≡ false

mutual
  node-parts : (n : Node Spelling) → NodeRight n ↔ (EachRight (node_leaves n) × NodeMarksFit n)
  node-parts (leaf a) = (λ h. (λ b m. rw (Memᴰ.eq_of_singleton m) h, tt), λ h. h.0 a (Memᴰ.head refl))
  node-parts (group s ts) = members-parts ts

  pub right-parts : (t : Syntax) → TreeRight t ↔ (EachRight (leaves t) × MarksFit t)
  right-parts (marked m n) =
      let e = node-parts n in
      (λ h. let i = e.0 h.1 in (i.0, (h.0, i.1)), λ h. (h.1.0, e.1 (h.0, h.1.1)))

  members-parts : (ts : Members Spelling) → MembersRight ts ↔ (EachRight (members_leaves ts) × MembersMarksFit ts)
  members-parts none = (λ h. (λ a m. absurd (Memᴰ.not-nil m), tt), λ h. tt)
  members-parts (t ▹ ts) =
      let d = right-parts t in
      let e = members-parts ts in (
        λ h. let i = d.0 h.0 in
            let j = e.0 h.1 in
            (λ a m. ⊎_elim (i.0 a) (j.0 a) (Memᴰ.append_cases (leaves t) m), (i.1, j.1)),
        λ h. (
          d.1 (λ a m. h.0 a (Memᴰ.append_left (members_leaves ts) m), h.1.0),
          e.1 (λ a m. h.0 a (Memᴰ.append_right (leaves t) m), h.1.1),
        ),
      )

-- all that a state holds is right
abbrev FrameRight : Frame → Type 0
FrameRight opened = Unit {0}
FrameRight (signed o u ts) = TreeRight u × MembersRight ts

abbrev StackRight : List Frame → Type 0
StackRight [] = Unit {0}
StackRight (f ∷ k) = FrameRight f × StackRight k

abbrev FocusRight : Focus → Type 0
FocusRight expect = Unit {0}
FocusRight (naming n) = Unit {0}
FocusRight (counting n c) = Unit {0}
FocusRight (after t) = TreeRight t

abbrev StateRight : State → Type 0
StateRight dead = ⊥
StateRight (at k f) = StackRight k × FocusRight f

-- a byte that leads from s to r
abbrev ByteTells : State → State → Type 0
ByteTells s r = Alive r → StateRight r ↔ (StateRight s × (ends_bad r ≡ false))

snoc-right : (ts : Members Spelling) (t : Syntax) → MembersRight (snoc ts t) ↔ (MembersRight ts × TreeRight t)
snoc-right none t = (λ h. (tt, h.0), λ h. (h.1, tt))
snoc-right (u ▹ ts) t =
    let e = snoc-right ts t in
    (λ h. let i = e.0 h.1 in ((h.0, i.0), i.1), λ h. (h.0.0, e.1 (h.0.1, h.1)))

-- behind the member t
abbrev Behind : State → List Frame → Syntax → Type 0
Behind s k t = StateRight s ↔ (StackRight k × TreeRight t)

close-tells : (s : State) (k : List Frame) (t : Syntax) (b : ℕ) → Behind s k t → ByteTells s (close k t b)
close-tells s [] t b i = λ a. absurd a
close-tells s (opened ∷ k) t b i =
    cond_cases (ByteTells s) (eqb b (code ")")) _ _
    (λ _ _. (λ h. (i.1 ((tt, h.0), h.1.1.0), refl), λ h. let j = i.0 h.0 in (j.0.1, (refl, (j.1, tt)))))
    (λ _. sign-cases (ByteTells s) b (λ o. at (signed o t none ∷ k) expect)
    (λ o _ _. (λ h. (i.1 ((tt, h.0.1), h.0.0.0), refl), λ h. let j = i.0 h.0 in (((j.1, tt), j.0.1), tt)))
    (λ a. absurd a))
close-tells s (signed o u ts ∷ k) t b i =
    let e = snoc-right ts t in
    cond_cases (ByteTells s) (eqb b (code ")")) _ _
    (λ _ _. (
      λ h. let m = e.0 h.1.1.1 in (i.1 (((h.1.1.0, m.0), h.0), m.1), refl),
      λ h. let j = i.0 h.0 in (j.0.1, (refl, (j.0.0.0, e.1 (j.0.0.1, j.1)))),
    ))
    (λ _. cond_cases (ByteTells s) (eqb b (byte_of o)) _ _
    (λ _ _. (
      λ h. let m = e.0 h.0.0.1 in (i.1 (((h.0.0.0, m.0), h.0.1), m.1), refl),
      λ h. let j = i.0 h.0 in (((j.0.0.0, e.1 (j.0.0.1, j.1)), j.0.1), tt),
    ))
    (λ _ a. absurd a))

after-tells : (s : State) (k : List Frame) (t : Syntax) (b : ℕ) → Behind s k t → ByteTells s (step_after k t b)
after-tells s k (marked m n) b i =
    cond_cases (ByteTells s) (is_plain m && not (is_plain (mark_of b))) _ _
    (λ q _.
    let p = and_yes (is_plain m) (not (is_plain (mark_of b))) q in
    let f : mark_fits m (node_weight 1 0 n) ≡ true = rw (is-plain m (T_true (is_plain m) p.0)) in
    let u : is_plain (mark_of b) ≡ false = (tells-not (is_plain (mark_of b))).0 (T_true (not (is_plain (mark_of b))) p.1) in
    rw u (
      λ h. (i.1 (h.0, (f, h.1.1)), rw h.1.0),
      λ h. let j = i.0 h.0 in (j.0, (sym (not-not (mark_fits (mark_of b) (node_weight 1 0 n))) ∙ ap not h.1, j.1.1)),
    ))
    (λ _. close-tells s k (marked m n) b i)

shut-tells : (k : List Frame) → ByteTells (at k expect) (shut k)
shut-tells [] a = absurd a
shut-tells (opened ∷ k) a = (λ h. (((tt, h.0), tt), refl), λ h. (h.0.0.1, (refl, tt)))
shut-tells (signed o u ts ∷ k) a = absurd a

-- where all that is held stays
abbrev Stays : List Frame → Type 0
Stays k = (StackRight k × Unit {0}) ↔ ((StackRight k × Unit {0}) × (false ≡ false))

stays : (k : List Frame) → Stays k
stays k = (λ h. (h, refl), λ h. h.0)

-- where a count is closed
counted : (k : List Frame) (c : Count) → (StackRight k × ((true ≡ true) × (wrong c ≡ false))) ↔ ((StackRight k × Unit {0}) × ((wrong c || false) ≡ false))
counted k c = rw or-false (λ h. ((h.0, tt), h.1.1), λ h. (h.0.0, (refl, h.1)))

count-tells : (k : List Frame) (n : Text) (c : CountPart) (b : ℕ) → ByteTells (at k (counting n c)) (step_count k n c b)
count-tells k n (low l) b =
    cond_cases (ByteTells (at k (counting n (low l)))) (is_digit b && grows l) _ _ (λ _ _. stays k)
    (λ _. cond_cases (ByteTells (at k (counting n (low l)))) (eqb b (code ".") && some_digit l) _ _ (λ _ _. stays k) (λ _ a. absurd a))
count-tells k n (dot l) b = cond_cases (ByteTells (at k (counting n (dot l)))) (eqb b (code ".")) _ _ (λ _ _. stays k) (λ _ a. absurd a)
count-tells k n (dots l) b =
    cond_cases (ByteTells (at k (counting n (dots l)))) (is_digit b) _ _ (λ _ _. stays k)
    (λ _. cond_cases (ByteTells (at k (counting n (dots l)))) (eqb b (code "*")) _ _ (λ _ _. stays k) (λ _ a. absurd a))
count-tells k n (high l m) b =
    cond_cases (ByteTells (at k (counting n (high l m)))) (is_digit b && grows m) _ _ (λ _ _. stays k)
    (λ _. cond_cases (ByteTells (at k (counting n (high l m)))) (eqb b (code "]")) _ _ (λ _ _. counted k (between l m)) (λ _ a. absurd a))
count-tells k n (star l) b =
    cond_cases (ByteTells (at k (counting n (star l)))) (eqb b (code "]")) _ _ (λ _ _. counted k (onward l)) (λ _ a. absurd a)

step-tells : (s : State) (b : ℕ) → ByteTells s (step s b)
step-tells dead b = λ a. absurd a
step-tells (at k expect) b =
    cond_cases (ByteTells (at k expect)) (is_initial b) _ _ (λ _ _. stays k)
    (λ _. cond_cases (ByteTells (at k expect)) (eqb b (code "(")) _ _ (λ _ _. (λ h. ((h.0.1, tt), refl), λ h. ((tt, h.0.0), tt)))
    (λ _. cond_cases (ByteTells (at k expect)) (eqb b (code ")")) _ _ (λ _. shut-tells k) (λ _ a. absurd a)))
step-tells (at k (naming n)) b =
    cond_cases (ByteTells (at k (naming n))) (is_inner b) _ _ (λ _ _. stays k)
    (λ _. cond_cases (ByteTells (at k (naming n))) (eqb b (code "[")) _ _ (λ _ _. stays k)
    (λ _. after-tells (at k (naming n)) k (bare n) b (λ h. (h.0, (refl, refl)), λ h. (h.0, tt))))
step-tells (at k (counting n c)) b = count-tells k n c b
step-tells (at k (after t)) b = after-tells (at k (after t)) k t b (λ h. h, λ h. h)

-- behind the first p bytes
abbrev ClearTo : Text → ℕ → Type 0
ClearTo x p = (q : ℕ) → q < p → ends_bad (here x (suc q)) ≡ false

right-here : (x : Text) (p : ℕ) → p ≤ length x → Alive (here x p) → StateRight (here x p) ↔ ClearTo x p
right-here x zero h a = (λ _ q i. absurd (let l : q < 0 = i in omega arith), λ _. (tt, tt))
right-here x (suc p) h a =
    let r = run_take x p h in
    let b : Alive (step (here x p) (get_or x p 0)) = rw r at a in
    let i = right-here x p (omega arith) (alive-before (here x p) (get_or x p 0) b) in
    let j : StateRight (here x (suc p)) ↔ (StateRight (here x p) × (ends_bad (here x (suc p)) ≡ false)) = rw r (step-tells (here x p) (get_or x p 0) b) in (
      λ f q l. by_cases (ℕ_discrete q p) (λ e. rw e (j.0 f).1) (λ e. i.0 (j.0 f).0 q (omega arith)),
      λ c. j.1 (i.1 (λ q l. c q (omega arith)), c p (omega arith)),
    )

behind-right : (t : Syntax) → StateRight (at [] (focus_behind t)) ↔ TreeRight t
behind-right (marked Optional n) = (λ h. h.1, λ h. (tt, h))
behind-right (marked Nonempty n) = (λ h. h.1, λ h. (tt, h))
behind-right (marked Plain (group s ts)) = (λ h. h.1, λ h. (tt, h))
behind-right (marked Plain (leaf a)) = go a.name a.count
  where
    go : (n : Text) (c : Count) → StateRight (at [] (behind_atom n c)) ↔ ((true ≡ true) × (wrong c ≡ false))
    go n unwritten = (λ h. (refl, refl), λ h. (tt, tt))
    go n (between u v) = (λ h. h.1, λ h. (tt, h))
    go n (onward u) = (λ h. h.1, λ h. (tt, h))

module _ (t : Syntax) (formed : Formed SpellingFormed t) where
  -- what a model text begins with
  pub text-begins : (n : ℕ) → Begins (take n (text t))
  text-begins n = record {
    more = drop n (text t);
    whole = record { tree = t; spells = record { formed = formed; spelt = sym (take-append-drop n (text t)) } };
  }

  ends : here (text t) (length (text t)) ≡ at [] (focus_behind t)
  ends = ap (run start) (take-length (text t)) ∙ tree-run t [] formed

  right-clear : TreeRight t ↔ ClearTo (text t) (length (text t))
  right-clear =
      let i = right-here (text t) (length (text t)) (omega arith) (rw ends tt) in
      let j = behind-right t in
      (λ h. i.0 (rw ends (j.1 h)), λ c. j.0 (rw ends at (i.1 c)))

  -- neither at p
  clear_both : TreeRight t → (p : ℕ) → p < length (text t) → (ends_wrong (here (text t) (suc p)) ≡ false) × (ends_empty (here (text t) (suc p)) ≡ false)
  unfolding right-clear
  clear_both r p l = neither (ends_wrong (here (text t) (suc p))) (ends_empty (here (text t) (suc p))) (right-clear.0 r p l)

  pub clear-right : TreeRight t ↔ (((p : ℕ) → EndsWrong (text t) p → ⊥) × ((p : ℕ) → EndsEmpty (text t) p → ⊥))
  unfolding right-clear clear_both
  clear-right = (
    λ r. (
      λ p e. subst T (clear_both r p e.inside).0 (ends-wrong (text t) p e),
      λ p e. subst T (clear_both r p e.inside).1 (ends-empty (text t) p e),
    ),
    λ (n, m). right-clear.1 (λ p l. fails (ends_bad (here (text t) (suc p))) Iff.rfl λ e.
        ⊎_elim (λ w. n p (wrong-ends (text t) p l (rw w tt))) (λ w. m p (empty-ends (text t) p l (rw w tt)))
        ((tells-or (ends_wrong (here (text t) (suc p))) (ends_empty (here (text t) (suc p))) Iff.rfl Iff.rfl).0 e)),
  )
