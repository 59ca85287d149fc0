-- The tree of an accepted text: it is tidied, stands alone on the stack, and is written if the buffer has room for it.
use mathlib.Core.{Path.◌≡◌, Path.refl, Path.sym, Path.ap, Path.◌∙◌, Path.subst, Logic.inr, Logic.⊎_elim, Logic.by_cases}
use mathlib.Core.{Bool.true, Bool.false, Bool.true≢false, List.List, List.[], List.◌∷◌, List.◌++◌, List.append-nil}
use Prim.Native.{Nat.ℕ, Nat.suc, Nat.◌-◌, Nat.◌≤◌, Nat.◌<◌}
use native.Mathlib.{Decide.dec_le, Omega.arith}
use Rattle.std.specs.Prelude.{length, drop, set, get_or, replicate, Ok, Err}
use Rattle.std.proofs.Common.{length-set, le-leb}
use Rattle.std.proofs.lemmas.Bool.{lt-leb}
use Rattle.fields.specs.{Bytes.Text, Bytes.bytes, Limits.max_text, Limits.max_nodes, Put.Put, Put.put_end, Put.put_at, Put.Laws.put-fits, Put.Laws.put_first}
use Rattle.model.specs.{declared.fault.ModelFault.TheVariants.Size, Tree.nodes, Flatten.nil, Flatten.is_nil}
use Rattle.model.specs.{Flatten.members_of}
use Rattle.judge.specs.Answer.{answer, answered}
use Rattle.model.specs.{Fault.Answers, Fault.accepted, Accept.Within}
use Rattle.model.specs.{Syntax.Syntax, Syntax.text}
use Rattle.model.proofs.AcceptLaws.{accepted-within}
use Rattle.canonical.specs.declared.fault.WriteFault.TheVariants.{LongText}
use Rattle.canonical.specs.{declared.head.Head.Head, declared.tidy.Tidied.Tidied, Tidy.tidy, Order.order, Order.Kept.order-length}
use Rattle.canonical.specs.Canonical.{WriteReply, canonical_text, write_fitting, unwritten, written_of, buffer_written}
use Rattle.canonical.specs.Canonical.Fixed.{canonical-tidy}
use Rattle.canonical.specs.Writer.{Head.no_head, Head.is_nothing, Place.TreeAt, Keeps.NamedAt, Stack.trees_on}
use Rattle.canonical.specs.Writer.{Stack.HeadsFit, Lists.tree_at}
use Rattle.canonical.specs.Writer.{Length.signed_length, Recursion.TidyReady, Recursion.TidiedAt, Recursion.Stepped.on-top}
use Rattle.canonical.specs.Writer.{Stack.stacked, Stack.Push.push, Stack.Skip.trees-none, Stack.Skip.some-node}
use Rattle.canonical.specs.Writer.Keeps.Laws.{named_some, nil-sign}

-- the text of the tree on top
abbrev pub text_at : Text → List Head → ℕ → Text
text_at x stack top = text (order (tree_at x stack top))

-- what is answered where it is written into a buffer of k bytes
abbrev pub tree_reply : Text → List Head → ℕ → ℕ → WriteReply
tree_reply x stack top k = write_fitting (text_at x stack top) k

-- one tree stands on the stack
pub record OneTree (x : Text) (stack : List Head) (top : ℕ) : Type 0 where
  pub short : length x ≤ max_text
  pub entries : length stack ≡ max_nodes
  pub inside : top < max_nodes
  pub heads : HeadsFit x (drop top stack)
  pub alone : trees_on x (drop top stack) ≡ tree_at x stack top ∷ []
  pub few : nodes (tree_at x stack top) ≤ max_nodes

-- Where a text fits the buffer, and where it does not.
pub has_room : (y b new : Text) → length y ≤ length b → new ≡ y ++ drop (length y) b
    → (Ok (length y) ≡ written_of (write_fitting y (length b))) × (new ≡ buffer_written (write_fitting y (length b)) b)
has_room y b new h e = rw (le-leb (length y) (length b) h) (refl, e)

pub no_room : (y b : Text) → length b < length y
    → (Err (unwritten LongText 0) ≡ written_of (write_fitting y (length b))) × (b ≡ buffer_written (write_fitting y (length b)) b)
no_room y b h = rw (lt-leb (length y) (length b) h) (refl, refl)

-- `()`
pub nil-put : (old new : Text) (end : ℕ) → 2 ≤ length old → end ≡ put_end old 0 (bytes "()") → new ≡ put_at old 0 (bytes "()")
    → (Ok end ≡ written_of (write_fitting (bytes "()") (length old))) × (new ≡ buffer_written (write_fitting (bytes "()") (length old)) old)
nil-put old new end h e n =
    let p = put_first (put-fits old new 0 (bytes "()") end (omega (arith, h)) e n) in
    rw p.0 (has_room (bytes "()") old new h (p.1 ∙ ap (λ i. bytes "()" ++ drop i old) p.0))

-- One tree is as long as its text.
module _ {x : Text} {stack : List Head} {top : ℕ} (h : OneTree x stack top) where
  pub one-length : signed_length (trees_on x (drop top stack)) ≡ suc (length (text_at x stack top))
  one-length = ap signed_length h.alone ∙ omega (arith, order-length (tree_at x stack top))

  pub tree-put : {old new : List ℕ} {n end : ℕ} → n ≡ length (text_at x stack top) → n ≤ length old → Put old new 0 (text_at x stack top) end
      → (Ok n ≡ written_of (tree_reply x stack top (length old))) × (new ≡ buffer_written (tree_reply x stack top (length old)) old)
  tree-put {old} {new} e l p =
      let f = put_first p in
      rw e (has_room (text_at x stack top) old new (omega (arith, l, e)) (f.1 ∙ ap (λ i. text_at x stack top ++ drop i old) f.0))

-- The tree of an accepted text.
module _ (x : Text) (t : Syntax) (e : answer x ≡ accepted t) where
  found : Answers x (accepted t)
  found = subst (Answers x) e (answered x)

  within : Within t
  within = accepted-within x t found

  short-text : length x ≤ max_text
  short-text = by_cases (dec_le (length x) max_text) (λ h. h) (λ n. absurd (found.0 Size 0 (refl, inr (omega (arith, n)))))

  pub whole-stands : TreeAt x 0 t
  whole-stands =
      record { formed = found.1.formed; rest = []; splits = sym found.1.spelt ∙ sym (append-nil (text t)); stops = tt }

  pub whole_ready : TidyReady x (replicate max_nodes no_head) 0 max_nodes
  whole_ready =
      record {
        tree = t;
        stands = whole-stands;
        short = short-text;
        entries = refl;
        room = within.few_nodes;
        inside = omega arith;
        heads = tt;
      }

  module _ {stack : List Head} {r : Tidied} (k : TidiedAt x (replicate max_nodes no_head) stack 0 max_nodes r t) where
    -- `()`
    pub nil-text : is_nothing r.head.shape ≡ true → canonical_text t ≡ bytes "()"
    nil-text z =
        ap text (canonical-tidy t)
        ∙ ⊎_elim (λ i. ap (λ (u : Syntax). text (order u)) i)
        (λ p. absurd (true≢false (sym z ∙ nil-sign (tidy t) k.keeps ∙ named_some (tidy t) p))) k.keeps.kind_is

    -- any other stands on the stack by its head
    module _ (z : is_nothing r.head.shape ≡ false) where
      pub head-room : (0 < r.top) × (r.top ≤ max_nodes)
      head-room =
          let n = some-node (tidy t) in
          (omega (arith, k.on_stack.top_is, k.few, within.few_nodes), omega (arith, k.on_stack.top_is, n))

      kept : NamedAt x (tidy t) r.head.least
      kept = ⊎_elim (λ i. absurd (true≢false (sym (ap is_nil i) ∙ sym (nil-sign (tidy t) k.keeps) ∙ z))) (λ h. h) k.keeps.kind_is

      abbrev topped : List Head
      topped = set stack (r.top - 1) r.head

      topped-is : drop (r.top - 1) topped ≡ r.head ∷ drop r.top stack
      topped-is = on-top stack r.top r.head head-room.0 (omega (arith, head-room.1, k.on_stack.entries))

      pushed : (trees_on x (r.head ∷ drop r.top stack) ≡ tidy t ∷ []) × HeadsFit x (r.head ∷ drop r.top stack)
      pushed =
          push (drop r.top stack) [] (tidy t) k.keeps kept
          (k.on_stack.trees_are ∙ ap (stacked (members_of (tidy t))) (trees-none x)) k.on_stack.heads

      alone-is : trees_on x (drop (r.top - 1) topped) ≡ tidy t ∷ []
      alone-is = ap (trees_on x) topped-is ∙ pushed.0

      tree_is : tree_at x topped (r.top - 1) ≡ tidy t
      tree_is = ap (λ (l : List Syntax). get_or l 0 nil) alone-is

      pub one-tree : OneTree x topped (r.top - 1)
      one-tree =
          record {
            short = short-text;
            entries = length-set stack (r.top - 1) r.head ∙ k.on_stack.entries;
            inside = omega (arith, head-room.0, head-room.1);
            heads = subst (HeadsFit x) (sym topped-is) pushed.1;
            alone = alone-is ∙ ap (λ (u : Syntax). u ∷ []) (sym tree_is);
            few = omega (arith, ap nodes tree_is, k.few, within.few_nodes);
          }

      pub tree-text : text_at x topped (r.top - 1) ≡ canonical_text t
      tree-text = ap (λ (u : Syntax). text (order u)) tree_is ∙ sym (ap text (canonical-tidy t))
