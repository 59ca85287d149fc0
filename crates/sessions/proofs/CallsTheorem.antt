-- Demand 3: every list of calls that follows an opening not refused agrees with the book.
use mathlib.Core.{Path.◌≡◌, Path.refl, Logic.◌↔◌, List.List, List.[], List.◌∷◌, List.◌++◌, List.map, List.append-nil, List.append_assoc}
use Rattle.std.specs.Prelude.{ℕ, suc, ◌≤◌, ◌<◌, length, replicate, Ok}
use Rattle.std.proofs.Common.{arith, length-append}
use Rattle.std.proofs.lemmas.List.{length-replicate}
use Rattle.model.specs.{declared.rule.Rule.Rule, declared.verdict.Verdict.Verdict, Word.Word, Types.Ty, Verdict.Says, Rule.Means, Rule.names}
use Rattle.judge.specs.{Row.Upto}
use Rattle.sessions.specs.Book.{Call, opening, adding, taking_back, asking, looking_ahead, CallReply, nothing, Book, book, room, Keeps, done, next}
use Rattle.sessions.specs.{Book.adds, Book.Laws.keeps-once, Session.free, Session.Gives}
use Rattle.sessions.specs.Calls.{World, Plays, by_open, by_add, by_take_back, by_verdict, by_next, PlaysAll, no_more, and_then, shown}
use Rattle.sessions.proofs.CallsAgree.{Matches, done-opened, readable-opened, asked-says, agrees}

-- the promises of a call can be met, in every world and with any row lent, and so can those of a list
plays-ahead : (u : World) (lent : Word) → (a : CallReply) × (v : World) × Plays u (looking_ahead (length lent)) a v
plays-ahead u lent = (_, u, by_next lent (refl, refl))

plays-some : (u : World) (q : Call) → (a : CallReply) × (v : World) × Plays u q a v
plays-some u (opening r) = (_, _, by_open (refl, refl))
plays-some u (adding x) = (_, _, by_add (refl, refl))
plays-some u taking_back = (_, _, by_take_back (refl, refl))
plays-some u asking = (_, u, by_verdict refl)
plays-some u (looking_ahead k) = rw length-replicate at (plays-ahead u (replicate k free))

pub plays-all : (u : World) (qs : List Call) → (rs : List CallReply) × (v : World) × PlaysAll u qs rs v
plays-all u [] = ([], u, no_more)
plays-all u (q ∷ qs) =
    let (a, v, p) = plays-some u q in
    let (rs, w, ps) = plays-all v qs in
    (a ∷ rs, w, and_then p ps)

-- a list of calls on the world that shows a book
keeps : {n : ℕ} {b : Book} {u₁ u₂ : World} {qs : List Call} {rs : List CallReply} → Matches n b → u₁ ≡ shown n b → PlaysAll u₁ qs rs u₂ →
    (c : Book) × Keeps n b qs rs c × (u₂ ≡ shown n c) × (length c.row ≤ room n)
keeps {b = b} k e no_more = (b, done, e, k.fits)
keeps {n} {b} k e (and_then {u₁ = u₁} {q = q} {a = a} p ps) =
    let o = agrees n b k (rw e at p) in
    let (d, hs, g, m) = keeps {n = n} {b = o.0} o.3 o.2 ps in
    (d, next o.1 hs, g, m)

-- Each reply is the book's, and at the end the session and the trail show the book.
pub agrees-with-book : {u₀ u₁ u₂ : World} {r : Rule} {qs : List Call} {rs : List CallReply}
    → Plays u₀ (opening r) nothing u₁ → PlaysAll u₁ qs rs u₂ →
    let n = length u₀.trail in
    (b : Book) × Keeps n (book r []) qs rs b × (u₂ ≡ shown n b) × (length b.row ≤ room n)
agrees-with-book p ps = let o = done-opened p refl in keeps o.kept o.shows ps

-- additions for which there are names and room
adds-all : (n : ℕ) (r : Rule) (v w : Word) → Upto (names r) w → length (v ++ w) ≤ room n →
    Keeps n (book r v) (map adding w) (replicate (length w) nothing) (book r (v ++ w))
adds-all n r v [] h l = rw append-nil done
adds-all n r v (x ∷ w) (h, hs) l =
    let e = append_assoc v (x ∷ []) w in
    let m : length v < room n = omega (arith, length-append v (x ∷ w)) in
    next (adds h (λ (k : length v ≡ room n). omega arith)) (rw e at (adds-all n r (v ++ (x ∷ [])) w hs (rw e l)))

-- A row that is added to a fresh session: no number is refused, and the verdict is that of the meaning.
pub judges-row : {r : Rule} {A : Ty} {u₀ u : World} {rs : List CallReply} → Means r A → (w : Word) → Upto (names r) w
    → length w ≤ room (length u₀.trail) → PlaysAll u₀ (opening r ∷ map adding w) rs u
    → (rs ≡ replicate (suc (length w)) nothing) × ((v : Verdict) → Gives u.session u.trail (Ok v) ↔ Says A w v)
judges-row {r} {u₀ = u₀} m w h l (and_then p ps) =
    let n = length u₀.trail in
    let k : Matches n (book r w) = record { known = (m.text, m.reads); named = h; fits = l } in
    let (b, i, f, j) = agrees-with-book (rw (readable-opened k.known p) at p) ps in
    let (e, c) = keeps-once i (adds-all n r [] w h l) in
    (cc (readable-opened k.known p), λ v. rw (f, c) (asked-says n (book r w) k m v))
