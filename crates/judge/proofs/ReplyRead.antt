-- What is read of a model text and of a children text, and the reply that comes of it.
use mathlib.Core.{Path.◌≡◌, Path.refl, Path.sym, Path.ap, Path.◌∙◌, Bool.true, List.List, List.map}
use Rattle.std.specs.Prelude.{ℕ, ◌<◌, ◌≤◌, Result, Ok, Err}
use Rattle.std.proofs.Common.{arith}
use lib.{Dec.leb, Dec.ltb, ListN.length, ListN.take, ListN.get_or, ListN.length-map}
use borrow.Author.Tests.{le-ltb, lt-ltb, le-leb}
use Rattle.fields.specs.{Tests.by-test, Bytes.Text, Limits.max_row, Limits.max_file, declared.fault.CueFault.CueFault}
use Rattle.fields.specs.{declared.fault.CueFault.TheVariants.LongFile, Children.all_names, Children.children_of}
use Rattle.fields.specs.Children.Laws.{counted}
use Rattle.model.specs.{declared.rule.Upper.Upper, declared.rule.Node.Node, declared.verdict.Verdict.Verdict}
use Rattle.model.specs.{declared.verdict.Verdict.TheVariants.Dead, Verdict.verdict, Word.Word, Word.keep, Syntax.Syntax, Syntax.number_in}
use Rattle.model.specs.{Syntax.written_names, Fault.Answer, Fault.Answers, Fault.refused, Fault.accepted, Model.Model, Model.model_of}
use Rattle.judge.specs.Answer.{answer-is}
use Rattle.model.specs.{Model.encode, Model.type_of, Model.atoms_in, Rule.rule_of, Rule.rule_type, Rule.used, Rule.Laws.used-is}
use Rattle.model.specs.{Rule.Laws.used-with, Check.readable}
use Rattle.model.proofs.CheckExact.{readable-is, rule-type}
use Rattle.judge.specs.{declared.cursor.Cursor.Cursor, declared.packed.Sizes.Sizes, declared.reply.TextMisread.TextMisread, Packed.node_in, Packed.rule_in}
use Rattle.judge.specs.declared.fault.Misread.{Misread}
use Rattle.judge.specs.Packed.{SameNodes, Laws.same_first}
use Rattle.judge.specs.{declared.reply.ChildrenRow.ChildrenRow, declared.fault.JudgeFault.JudgeFault, Reading.Table.parts_in, Reading.Table.Laws.parts-long}
use Rattle.judge.specs.{Reading.Walk.Kept, Named.Laws.row_upto, Row.upto, Row.Tally.seen_of, Row.Pass.seen_verdict}
use Rattle.judge.specs.{Reply.Children.ChildrenTallied, Reply.Children.row_whole}
use Rattle.judge.proofs.RowCode.{verdict-stopped, verdict-tallied}
use Rattle.judge.specs.Reply.Children.{sizes, row_faulty, no_row}
use Rattle.judge.specs.declared.reply.ChildrenRow.TheVariants.{Whole as Both, Faulty}
use Rattle.judge.specs.declared.reply.TextMisread.TheVariants.{Model as ModelRefused, Children as ChildrenRefused}
use Rattle.judge.specs.Reading.{reading_by, reading}
use Rattle.std.specs.Prelude.{Some, None}
use Rattle.judge.specs.FirstFault.{upper_counts, first_fault, children_fault, searched_of}
use Rattle.judge.proofs.ReadingWhole.{whole-rule, whole-count, whole-names}
use Rattle.judge.specs.Reading.Whole.{Whole as WholeText}
use Rattle.judge.specs.Reply.{children_in, row, Reply, children_refused, good, children_by, reply_by, reply, row_in, children_reply, result_of, judged_of}
use Rattle.judge.specs.Next.{numbers_to, next_names, fitted, children_next, row_answer, HandsNext, HandsChildrenNext, Set.in_set, Ahead.root_ahead}
use Rattle.judge.proofs.NextCode.{next-stopped, next-tallied}
use Rattle.judge.specs.Reply.Read.{text_children, text_fault, BothRead, FaultRead, TextsAnswer, TextsRead}
use Rattle.judge.specs.Reply.Read.{both_read, fault_read, refused_model, refused_children}

-- what was read of the children, for both texts
abbrev pub texts_answer : Result ChildrenRow CueFault → TextsAnswer
texts_answer (Ok r) = Ok r
texts_answer (Err f) = Err (ChildrenRefused f)

-- The model text was read, and then the children text was.
module _ {m : Text} {words : List ℕ} {kept : Kept} {d : Cursor} (w : WholeText m words kept d) (c : Text) where
  pub long-refused : (words' s : List ℕ) → max_file < length c → TextsRead m c words' s (Err (ChildrenRefused LongFile))
  long-refused words' s h = refused_children {f = LongFile} w.tree w.answers (rw (lt-ltb max_file (length c) h))

  abbrev counts : List Upper
  counts = upper_counts (map node_in (take d.nodes words))

  -- the nodes stood as they were
  module _ (size : length c ≤ max_file) (words' : List ℕ) (same : SameNodes words words') {s : List ℕ} {x : Result ChildrenRow CueFault}
      (g : ChildrenTallied counts (parts_in m kept.0 d.names) (children_in c) s d x) where
    children-are : text_children c ≡ children_of (children_in c)
    children-are = rw (le-ltb max_file (length c) size)

    nodes-same : take d.nodes words' ≡ take d.nodes words
    nodes-same = same_first words words' same d.nodes w.nodes.few

    named : d.names ≡ length (written_names w.tree)
    named = sym (parts-long w.tabled) ∙ ap length (whole-names w)

    given : ChildrenTallied counts (written_names w.tree) (children_in c) s d x
    given = rw (← whole-names w) g

    pub texts-read : TextsRead m c words' s (texts_answer x)
    unfolding given children-are nodes-same named
    texts-read = go x given
      where
        go : (y : Result ChildrenRow CueFault) → ChildrenTallied counts (written_names w.tree) (children_in c) s d y → TextsRead m c words' s (texts_answer y)
        go y (row_whole {n = n} k t) =
            both_read {r = sizes d n} (record {
              model = record { tree = w.tree; answered = w.answers; rule_is = rw nodes-same (whole-rule w) };
              sized = record {
                few = w.nodes.few;
                whole = omega (arith, w.nodes.whole, same.1);
                names_are = rw nodes-same (whole-count w);
                few_names = w.tabled.few;
              };
              written = named;
              children = children-are ∙ k;
              long = length-map (children_in c) (number_in (written_names w.tree)) ∙ (counted (children_in c) n k).0;
              sound = rw nodes-same (sym t.fault_is);
              tallied = t.tallied refl;
            })
        go y (row_faulty {p = p} {n = n} k f) =
            fault_read {p = p} (record {
              tree = w.tree;
              answers = w.answers;
              written = rw (← w.nodes.held) (sym (whole-count w) ∙ named);
              children = (n, children-are ∙ k);
              fault = rw (← w.nodes.held) f;
            })
        go y (no_row k) = refused_children w.tree w.answers (children-are ∙ k)

-- a reply by what the children are
abbrev pub children_give : {A : Type 0} → Result ℕ CueFault → A → Reply A
children_give (Ok n) v = good v
children_give (Err f) v = children_refused f

children-give : {A : Type 0} (c : Text) (v : A) → children_by row c v ≡ children_give (text_children c) v
children-give c v =
    by-test (ltb max_file (length c)) (λ t. rw t)
    (λ t. by-test (all_names (children_in c))
    (λ n. by-test (leb (length (children_in c)) max_row) (λ l. rw (t, n, l)) (λ l. rw (t, n, l)))
    (λ n. rw (t, n)))

reply-accepted : {A : Type 0} (f : Syntax → A) (m c : Text) (t : Syntax) → Answers m (accepted t) → reply row f m c ≡ children_give (text_children c) (f t)
reply-accepted f m c t a = sym (ap (reply_by row f c) (answer-is m (accepted t) a)) ∙ children-give c (f t)

-- The reply to what was read, whatever f is asked of the model's tree: a refusal, or f of the tree that was read (`reply-both`).
module _ {m c : Text} {words s : List ℕ} {x : TextsAnswer} (h : TextsRead m c words s x) where
  pub read-both : {r : Sizes} → x ≡ Ok (Both r) → BothRead m c words s r
  read-both {r} e = go (rw e at h)
    where
      go : TextsRead m c words s (Ok (Both r)) → BothRead m c words s r
      go (both_read b) = b

  pub read-fault : {p : ℕ} → x ≡ Ok (Faulty p) → FaultRead m c p
  read-fault {p} e = go (rw e at h)
    where
      go : TextsRead m c words s (Ok (Faulty p)) → FaultRead m c p
      go (fault_read b) = b

  module _ {A : Type 0} (f : Syntax → A) where
    -- as it is handed back
    pub reply-refused : {e : TextMisread} → x ≡ Err e → result_of (reply row f m c) ≡ Err (text_fault e)
    reply-refused {e} q = go e (rw q at h)
      where
        go : (d : TextMisread) → TextsRead m c words s (Err d) → result_of (reply row f m c) ≡ Err (text_fault d)
        go d (refused_model {f = g} {p = p} a) = sym (ap (λ b. result_of (reply_by row f c b)) (answer-is m (refused g p) a))
        go d (refused_children {f = g} t a k) =
            let e : reply row f m c ≡ children_refused g = reply-accepted f m c t a ∙ rw k in ap result_of e

-- the outcome of reading the model text, whatever the children are
abbrev pub outcome_of : TextsAnswer → Result (Unit {0}) Misread
outcome_of (Ok r) = Ok tt
outcome_of (Err (ModelRefused e)) = Err e
outcome_of (Err (ChildrenRefused f)) = Ok tt

answer-outcome : (m : Text) (a : Answer) → Answers m a → (reading_by m a).outcome ≡ (reading m).outcome
answer-outcome m a h = ap (λ (b : Answer). (reading_by m b).outcome) (answer-is m a h)

pub outcome-told : {m c : Text} {words s : List ℕ} {x : TextsAnswer} → TextsRead m c words s x → outcome_of x ≡ (reading m).outcome
outcome-told {m} (both_read b) = answer-outcome m (accepted b.model.tree) b.model.answered
outcome-told {m} (fault_read b) = answer-outcome m (accepted b.tree) b.answers
outcome-told {m} (refused_model {f = f} {p = p} a) = answer-outcome m (refused f p) a
outcome-told {m} (refused_children t a k) = answer-outcome m (accepted t) a

module _ {m c : Text} {words s : List ℕ} {r : Sizes} (b : BothRead m c words s r) where
  abbrev tree : Syntax
  tree = b.model.tree

  abbrev nodes : List Node
  nodes = map node_in (take r.nodes words)

  reply-both : {A : Type 0} (f : Syntax → A) → reply row f m c ≡ good (f tree)
  reply-both f = reply-accepted f m c tree b.model.answered ∙ rw b.children

  -- 40 does not refuse the rule, and 43 does not refuse the row
  nodes-readable : readable (rule_in words r.nodes) ≡ true
  nodes-readable = (readable-is (rule_in words r.nodes)).1 (m, b.model)

  row_within : upto r.names (row_in tree c) ≡ true
  row_within = row_upto r.names (written_names tree) (children_in c) (omega (arith, b.written))

  nodes-type : rule_type (rule_in words r.nodes) ≡ type_of (model_of tree)
  nodes-type = ap rule_type b.model.rule_is ∙ rule-type (model_of tree)

  -- with the verdict of the passes
  module _ {v : Verdict} (e : v ≡ seen_verdict (rule_in words r.nodes) r.children (λ k. seen_of r.children (get_or s k 0))) where
    verdict-told : v ≡ verdict (type_of (model_of tree)) (row_in tree c)
    verdict-told =
        let t = verdict-tallied nodes nodes-readable (row_in tree c) b.sized.names_are row_within b.sound s b.tallied in
        e ∙ (rw (b.long, nodes-type) at t)

    pub row-judged : Ok v ≡ judged_of (children_reply m c)
    unfolding children_reply
    row-judged = ap Ok verdict-told ∙ sym (ap judged_of (reply-both (λ t. verdict (type_of (model_of t)) (row_in t c))))

  -- with the set of names that they give
  module _ {set : ℕ} (e : set ≡ (root_ahead (rule_in words r.nodes) r.children (λ k. seen_of r.children (get_or s k 0))).next) where
    names-told : keep (in_set set) (numbers_to r.names) ≡ next_names (type_of (model_of tree)) (length (written_names tree)) (row_in tree c)
    names-told =
        let t = next-tallied nodes nodes-readable (row_in tree c) b.sized.names_are row_within b.sound s b.tallied in
        ap (λ x. keep (in_set x) (numbers_to r.names)) e
        ∙ (rw (b.long, nodes-type) at t)
        ∙ ap (λ n. next_names (type_of (model_of tree)) n (row_in tree c)) b.written

    pub row_listed : {a : Result ℕ JudgeFault} (lent : Word) {lent' : Word}
        → HandsNext (fitted (length lent) (keep (in_set set) (numbers_to r.names))) a lent lent'
        → HandsChildrenNext (children_next m c (length lent)) (row_answer a) lent lent'
    unfolding children_next
    row_listed lent h =
        rw (reply-both (λ t. fitted (length lent) (next_names (type_of (model_of t)) (length (written_names t)) (row_in t c))), ← names-told)
        (ap row_answer h.0, h.1)

  -- no child is at fault
  pub row-searched : Ok None ≡ searched_of (children_fault m c)
  unfolding children_fault
  row-searched =
      let n : encode (model_of tree) ≡ nodes = sym (used-is (model_of tree)) ∙ ap used (sym b.model.rule_is) ∙ used-with nodes in
      sym (ap searched_of (reply-both (λ t. first_fault (upper_counts (encode (model_of t))) (row_in t c))) ∙ rw (n, b.sound))

-- the first child at fault is that at place p: the row is dead
module _ {m c : Text} {p : ℕ} (b : FaultRead m c p) where
  reply-fault : {A : Type 0} (f : Syntax → A) → reply row f m c ≡ good (f b.tree)
  reply-fault f = reply-accepted f m c b.tree b.answers ∙ rw b.children.1

  abbrev model : Model
  model = model_of b.tree

  model-readable : readable (rule_of model) ≡ true
  model-readable = (readable-is (rule_of model)).1 (m, record { tree = b.tree; answered = b.answers; rule_is = refl })

  row_named : upto (atoms_in (encode model)) (row_in b.tree c) ≡ true
  row_named = row_upto (atoms_in (encode model)) (written_names b.tree) (children_in c) (omega (arith, b.written))

  pub fault-judged : Ok Dead ≡ judged_of (children_reply m c)
  unfolding children_reply
  fault-judged =
      let d = verdict-stopped (encode model) model-readable (row_in b.tree c) refl row_named b.fault in
      sym (ap judged_of (reply-fault (λ t. verdict (type_of (model_of t)) (row_in t c))) ∙ ap Ok (rw (rule-type model) at d))

  pub fault-listed : (lent : Word) → HandsChildrenNext (children_next m c (length lent)) (Ok 0) lent lent
  unfolding children_next
  fault-listed lent =
      let d = next-stopped (encode model) model-readable (row_in b.tree c) refl row_named b.fault in
      rw (
        reply-fault (λ t. fitted (length lent) (next_names (type_of (model_of t)) (length (written_names t)) (row_in t c))),
        ← b.written,
        rw (rule-type model) at d,
        le-leb 0 (length lent) (omega arith),
      ) (refl, refl)

  pub fault-searched : Ok (Some p) ≡ searched_of (children_fault m c)
  unfolding children_fault
  fault-searched = sym (ap searched_of (reply-fault (λ t. first_fault (upper_counts (encode (model_of t))) (row_in t c))) ∙ ap Ok b.fault)
