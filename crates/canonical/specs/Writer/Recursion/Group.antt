-- The walk over the members of a group: it begins behind the bracket, goes on by one member, and ends before the other bracket.
use mathlib.Core.{Path.◌≡◌, Path.refl, Path.sym, Path.ap, Path.◌∙◌, Path.subst, Logic.inl, Logic.⊎_elim}
use mathlib.Core.{Bool.false, List.List, List.[], List.◌∷◌, List.◌++◌, List.append_assoc}
use Prim.Native.{Nat.ℕ, Nat.suc, Nat.◌+◌, Nat.◌-◌, Nat.◌≤◌, Nat.◌<◌, Char.code}
use native.Mathlib.{Omega.arith}
use lib.{Dec.T, Dec.eqb, ListN.length, ListN.drop, ListN.get_or}
use Rattle.std.proofs.Common.{ne_eqb}
use Rattle.std.proofs.Math.Facts.{and_yes}
use Rattle.fields.specs.Bytes.{Text, is_initial, is_name}
use Rattle.model.specs.{declared.rule.Sign.Sign, declared.rule.Mark.Mark}
use Rattle.model.specs.declared.rule.Sign.TheVariants.{None, Sequence, Choice, Interleaving}
use Rattle.model.specs.Tree.{leaf, group, marked, Members, none, ◌▹◌, size, nodes, members_weight, SignFits, Formed, MembersFormed}
use Rattle.model.specs.Syntax.{Spelling, Syntax, text, node_text, members_text, more_text, count_text, sign_text, mark_text, SpellingFormed}
use Rattle.model.specs.Flatten.Append.{append-size, append-weight}
use Rattle.canonical.specs.{declared.head.Head.Head, declared.tidy.Gathered.Gathered}
use Rattle.canonical.specs.Writer.Place.{Stops, TreeAt}
use Rattle.canonical.specs.Writer.Tidied.{no_members, sign_after, member_after}
use Rattle.canonical.specs.Writer.Keeps.{sign_byte}
use Rattle.canonical.specs.Writer.Keeps.Laws.{keeps-none}
use Rattle.canonical.specs.Writer.Recursion.{TidyReady, Looping}
use Rattle.canonical.specs.Writer.Recursion.Place.{drop-behind, byte_at, byte_inside, atom-stands, group-splits}

-- The first byte of a tree: of a name, or `(`.
abbrev pub FirstByte : Text → ℕ → Type 0
FirstByte x b = (y : Text) × (x ≡ b ∷ y)

name-begins : (n : Text) → T (is_name n) → (b : ℕ) × (FirstByte n b × T (is_initial b))
name-begins [] h = absurd h
name-begins (b ∷ n) h = (b, ((n, refl), (and_yes (is_initial b) _ h).0))

atom-begins : (a : Spelling) → SpellingFormed a → (b : ℕ) × (FirstByte (node_text (leaf a)) b × T (is_initial b))
atom-begins a h =
    let (b, (i, l)) = name-begins a.name h.0 in
    let (n, e) = i in
    (b, ((n ++ count_text a.count, ap (λ l. l ++ count_text a.count) e), l))

pub tree-begins : (t : Syntax) → Formed SpellingFormed t → (b : ℕ) × (FirstByte (text t) b × (b ≡ code ")" → ⊥))
tree-begins (marked m (leaf a)) h =
    let (b, (i, l)) = atom-begins a h in
    let (y, e) = i in
    (b, ((y ++ mark_text m, ap (λ l. l ++ mark_text m) e), λ z. subst (λ (b : ℕ). T (is_initial b)) z l))
tree-begins (marked m (group s ts)) h = (code "(", ((_, refl), λ z. absurd (omega (arith, z))))

pub record AtomHere (x : Text) (p : ℕ) : Type 0 where
  pub mark : Mark
  pub atom : Spelling
  pub stands : TreeAt x p (marked mark (leaf atom))

module _ {x : Text} {p : ℕ} where
  pub tree-inside : {t : Syntax} → TreeAt x p t → p < length x
  tree-inside {t} h =
      let (b, ((y, e), z)) = tree-begins t h.formed in
      byte_inside x p b (y ++ h.rest) (h.splits ∙ ap (λ l. l ++ h.rest) e)

  -- where no `(` stands, the tree is an atom
  pub atom-here : (t : Syntax) → TreeAt x p t → (get_or x p 0 ≡ code "(" → ⊥) → AtomHere x p
  atom-here (marked m (leaf a)) h n = record { mark = m; atom = a; stands = h }
  atom-here (marked m (group s ts)) h n = absurd (n (byte_at x p (code "(") _ (group-splits h)))

  no-atom : {m : Mark} {a : Spelling} → TreeAt x p (marked m (leaf a)) → get_or x p 0 ≡ code "(" → ⊥
  no-atom {m} {a} h e =
      let i = atom-stands h in
      let (b, (k, l)) = atom-begins a i.formed in
      let (y, q) = k in
      subst (λ (b : ℕ). T (is_initial b)) (sym (byte_at x p b _ (i.splits ∙ ap (λ l. l ++ i.rest) q)) ∙ e) l

  -- behind the bracket
  pub begins : {stack : List Head} {top : ℕ} → TidyReady x stack p top → get_or x p 0 ≡ code "(" → Looping x stack stack p top (p + 1) None (no_members top)
  begins {stack} {top} r e = go r.tree r.stands r.room
    where
      go : (t : Syntax) → TreeAt x p t → nodes t ≤ top → Looping x stack stack p top (p + 1) None (no_members top)
      go (marked m (leaf a)) h k = absurd (no-atom h e)
      go (marked m (group s ts)) h k =
          record {
            mark = m;
            sign_of_group = s;
            members = ts;
            stands = h;
            short = r.short;
            stack_length = r.entries;
            room = omega (arith, k);
            inside = r.inside;
            from = omega arith;
            walking =
                record {
                  done = none;
                  left = ts;
                  parts = refl;
                  formed = h.formed.1;
                  ahead = drop-behind x (code "(" ∷ []) _ p (group-splits h);
                  sign_is = inl (refl, refl);
                  keeps = keeps-none x s top;
                  few = omega arith;
                  several = λ i. absurd (omega (arith, i));
                  entries = refl;
                  top_is = omega arith;
                  trees_are = refl;
                  heads = r.heads;
                };
          }

-- a member's sign is its group's, where there is another behind it
pub sign-some : (s : Sign) (n : ℕ) → SignFits s (suc (suc n)) → 0 < sign_byte s
sign-some None n h = absurd (omega (arith, h))
sign-some Sequence n h = omega arith
sign-some Choice n h = omega arith
sign-some Interleaving n h = omega arith

sign-none : (s : Sign) → SignFits s 1 → s ≡ None
sign-none None h = refl
sign-none Sequence h = absurd (omega (arith, h))
sign-none Choice h = absurd (omega (arith, h))
sign-none Interleaving h = absurd (omega (arith, h))

sign-stops : (s : Sign) (r : Text) → 0 < sign_byte s → Stops (sign_text s ++ r) × (sign_text s ≡ sign_byte s ∷ []) × (sign_byte s ≡ code ")" → ⊥)
sign-stops None r h = absurd (omega arith)
sign-stops Sequence r h = (tt, refl, λ z. absurd (omega (arith, z)))
sign-stops Choice r h = (tt, refl, λ z. absurd (omega (arith, z)))
sign-stops Interleaving r h = (tt, refl, λ z. absurd (omega (arith, z)))

after-sign : (s r : Sign) → 0 < sign_byte s → sign_after r (sign_byte s) ≡ s
after-sign None r h = absurd (omega arith)
after-sign Sequence r h = refl
after-sign Choice r h = refl
after-sign Interleaving r h = refl

-- Behind a member u, where the members l are left, at place q.
module _ (x : Text) (s : Sign) (behind : Text) where
  abbrev pub after_member : Members Spelling → Text
  after_member l = more_text l s ++ (code ")" ∷ behind)

  after-stops : (l : Members Spelling) → (0 < size l → 0 < sign_byte s) → Stops (after_member l)
  after-stops none f = tt
  after-stops (w ▹ l) f =
      subst Stops (sym (append_assoc (sign_text s) (text w ++ more_text l s) (code ")" ∷ behind)))
      (sign-stops s ((text w ++ more_text l s) ++ (code ")" ∷ behind)) (f (omega arith))).0

  pub record PastMember (l : Members Spelling) (q : ℕ) (sign : Sign) : Type 0 where
    pub inside : q < length x
    pub ahead : drop (member_after q (get_or x q 0)) x ≡ members_text l s ++ (code ")" ∷ behind)
    pub sign_is : sign_after sign (get_or x q 0) ≡ s
    pub from : q ≤ member_after q (get_or x q 0)

  pub behind-member : (l : Members Spelling) (q : ℕ) (sign : Sign) → drop q x ≡ after_member l → (0 < size l → 0 < sign_byte s) → (size l ≡ 0 → sign ≡ s)
      → PastMember l q sign
  behind-member none q sign e f g =
      let b = byte_at x q (code ")") behind e in
      record {
        inside = byte_inside x q (code ")") behind e;
        ahead = rw b e;
        sign_is = rw b (g refl);
        from = rw b (omega arith);
      }
  behind-member (w ▹ l) q sign e f g =
      let r = (text w ++ more_text l s) ++ (code ")" ∷ behind) in
      let i = sign-stops s r (f (omega arith)) in
      let d : drop q x ≡ sign_byte s ∷ r = e ∙ append_assoc (sign_text s) (text w ++ more_text l s) (code ")" ∷ behind) ∙ ap (λ y. y ++ r) i.1 in
      let b = byte_at x q (sign_byte s) r d in
      let c : eqb (get_or x q 0) (code ")") ≡ false = ne_eqb (get_or x q 0) (code ")") (λ z. i.2 (sym b ∙ z)) in
      record {
        inside = byte_inside x q (sign_byte s) r d;
        ahead = rw c (drop-behind x (sign_byte s ∷ []) r q d);
        sign_is = rw b (after-sign s sign (f (omega arith)));
        from = rw c (omega arith);
      }

-- One turn of the loop.
module _ {x : Text} {old new : List Head} {p top place : ℕ} {sign : Sign} {g : Gathered} (h : Looping x old new p top place sign g) where
  abbrev pub behind_group : Text
  behind_group = mark_text h.mark ++ h.stands.rest

  pub place_inside : place < length x
  place_inside = go h.walking.left h.walking.formed h.walking.ahead
    where
      go : (l : Members Spelling) → MembersFormed SpellingFormed l → drop place x ≡ members_text l h.sign_of_group ++ (code ")" ∷ behind_group)
          → place < length x
      go none f e = byte_inside x place (code ")") behind_group e
      go (u ▹ l) f e =
          let (b, ((y, q), z)) = tree-begins u f.0 in
          byte_inside x place b _ (e ∙ ap (λ r. (r ++ more_text l h.sign_of_group) ++ (code ")" ∷ behind_group)) q)

  -- a member stands at the place
  pub record Turn : Type 0 where
    pub member : Syntax
    pub others : Members Spelling
    pub left_is : h.walking.left ≡ member ▹ others

  pub turn : (get_or x place 0 ≡ code ")" → ⊥) → Turn
  turn n = go h.walking.left refl
    where
      go : (l : Members Spelling) → h.walking.left ≡ l → Turn
      go none e =
          absurd (n (byte_at x place (code ")") behind_group
          (h.walking.ahead ∙ ap (λ (l : Members Spelling). members_text l h.sign_of_group ++ (code ")" ∷ behind_group)) e)))
      go (u ▹ l) e = record { member = u; others = l; left_is = e }

  -- none is left
  pub walked-over : get_or x place 0 ≡ code ")" → h.walking.left ≡ none
  walked-over e = go h.walking.left h.walking.formed h.walking.ahead
    where
      go : (l : Members Spelling) → MembersFormed SpellingFormed l → drop place x ≡ members_text l h.sign_of_group ++ (code ")" ∷ behind_group) → l ≡ none
      go none f a = refl
      go (u ▹ l) f a =
          let (b, ((y, q), z)) = tree-begins u f.0 in
          absurd (z (sym (byte_at x place b _ (a ∙ ap (λ r. (r ++ more_text l h.sign_of_group) ++ (code ")" ∷ behind_group)) q)) ∙ e))

  module _ (t : Turn) where
    abbrev pub u : Syntax
    u = t.member

    pub size-parts : size h.members ≡ size h.walking.done + suc (size t.others)
    size-parts =
        ap size h.walking.parts ∙ append-size h.walking.done h.walking.left
        ∙ ap (λ (l : Members Spelling). size h.walking.done + size l) t.left_is

    pub weight-parts : members_weight 1 1 h.members ≡ members_weight 1 1 h.walking.done + (nodes u + members_weight 1 1 t.others)
    weight-parts =
        ap (members_weight 1 1) h.walking.parts ∙ append-weight 1 1 h.walking.done h.walking.left
        ∙ ap (λ (l : Members Spelling). members_weight 1 1 h.walking.done + members_weight 1 1 l) t.left_is

    -- the group's sign stands behind a member that is not the last
    pub more_signed : 0 < size t.others → 0 < sign_byte h.sign_of_group
    more_signed i =
        let e : size h.members ≡ suc (suc (size h.members - 2)) = omega (arith, size-parts) in
        sign-some h.sign_of_group (size h.members - 2) (subst (SignFits h.sign_of_group) e h.stands.formed.0)

    pub last-signed : size t.others ≡ 0 → sign ≡ h.sign_of_group
    last-signed i =
        ⊎_elim
        (λ (d, e). let n : size h.members ≡ 1 = omega (arith, size-parts, ap size d) in
        e ∙ sym (sign-none h.sign_of_group (subst (SignFits h.sign_of_group) n h.stands.formed.0)))
        (λ e. e)
        h.walking.sign_is

    formed-here : MembersFormed SpellingFormed (u ▹ t.others)
    formed-here = subst (MembersFormed SpellingFormed) t.left_is h.walking.formed

    pub formed-others : MembersFormed SpellingFormed t.others
    formed-others = formed-here.1

    pub splits-here : drop place x ≡ text u ++ (more_text t.others h.sign_of_group ++ (code ")" ∷ behind_group))
    splits-here =
        h.walking.ahead ∙ ap (λ (l : Members Spelling). members_text l h.sign_of_group ++ (code ")" ∷ behind_group)) t.left_is
        ∙ append_assoc (text u) (more_text t.others h.sign_of_group) (code ")" ∷ behind_group)

    pub member-stands : TreeAt x place u
    member-stands =
        record {
          formed = formed-here.0;
          rest = more_text t.others h.sign_of_group ++ (code ")" ∷ behind_group);
          splits = splits-here;
          stops = after-stops x h.sign_of_group behind_group t.others more_signed;
        }

    pub member-ready : TidyReady x new place g.top
    member-ready =
        record {
          tree = u;
          stands = member-stands;
          short = h.short;
          entries = h.walking.entries ∙ h.stack_length;
          room = omega (arith, h.room, weight-parts, h.walking.few, h.walking.top_is);
          inside = omega (arith, h.inside, h.walking.top_is);
          heads = h.walking.heads;
        }
