-- Laws of bytes that are put into a buffer: one write behind another, and a text that is written piece by piece.
use mathlib.Core.{Path.◌≡◌, Path.refl, Path.ap, Path.sym, Path.◌∙◌, List.[], List.◌∷◌, List.◌++◌, List.append_assoc, List.append-nil}
use Rattle.std.specs.Prelude.{ℕ, ◌+◌, ◌-◌, ◌≤◌, ◌<◌, min, length, take, drop, set}
use native.Mathlib.{Omega.arith, Numerals.add-one, Nat.min-eq_left}
use Rattle.std.proofs.Common.{length-append, length-take, length-drop, drop_of_length-le, take_at, drop_at, drop-drop, take_all, take-add}
use Rattle.std.proofs.lemmas.List.{set_split}
use Rattle.std.proofs.Math.Seq.{take-length, paste}
use borrow.Rule.Slice.PartMut.{put_mid}
use Rattle.fields.specs.{Bytes.Text, Put.Put, Put.put_start, Put.put_count, Put.put_end, Put.put_at, Put.Begun}

pub put-length : {old new : Text} {at : ℕ} {s : Text} {end : ℕ} → Put old new at s end → length new ≡ length old
put-length {old} {new} {at} {s} {end} p =
    rw (p.text_is, length-append, length-append, length-take, length-drop) (omega (arith, p.fits))

pub put-ends : {old new : Text} {at : ℕ} {s : Text} {end : ℕ} → Put old new at s end → (end ≡ at + length s) × (length new ≡ length old)
put-ends p = (p.end_is, put-length p)

-- a write at the beginning
pub put_first : {old new s : Text} {end : ℕ} → Put old new 0 s end → (end ≡ length s) × (new ≡ s ++ drop end old)
put_first {old} {new} {s} p =
    let e : 0 + length s ≡ length s = omega arith in
    (p.end_is ∙ e, p.text_is ∙ rw p.end_is)

pub put_front : {old new s : Text} {end : ℕ} → Put old new 0 s end → take end new ≡ s
put_front {old} {new} {s} {end} p = let f = put_first p in ap (take end) f.1 ∙ take_at s (drop end old) end (sym f.0)

-- two writes, the second behind the first
pub put_then : {old mid new : Text} {at a b : ℕ} {s t : Text} → Put old mid at s a → Put mid new a t b → Put old new at (s ++ t) b
put_then {old} {mid} {new} {at} {a} {b} {s} {t} p q =
    let k = put-length p in
    let f : length (take at old ++ s) ≡ a = rw (length-append, length-take) (omega (arith, p.fits, p.end_is)) in
    let m : mid ≡ (take at old ++ s) ++ drop (at + length s) old = p.text_is ∙ sym (append_assoc (take at old) s (drop (at + length s) old)) in
    let x : take a mid ≡ take at old ++ s = ap (take a) m ∙ take_at (take at old ++ s) (drop (at + length s) old) a f in
    let y : drop a mid ≡ drop (at + length s) old = ap (drop a) m ∙ drop_at (take at old ++ s) (drop (at + length s) old) a f in
    let g : (at + length s) + length t ≡ at + length (s ++ t) = rw length-append (omega arith) in
    let z : drop (a + length t) mid ≡ drop (at + length (s ++ t)) old =
    sym (drop-drop (length t) a mid) ∙ ap (drop (length t)) y ∙ drop-drop (length t) (at + length s) old ∙ ap (λ n. drop n old) g in
    record {
      fits = rw length-append (omega (arith, p.fits, q.fits, p.end_is));
      end_is = rw length-append (omega (arith, q.end_is, p.end_is));
      text_is =
          let rest = drop (at + length (s ++ t)) old in
          q.text_is ∙ rw (x, z, append_assoc (take at old) s (t ++ rest), append_assoc s t rest);
    }

pub put_one : (old : Text) (at b : ℕ) → at < length old → Put old (set old at b) at (b ∷ []) (at + 1)
put_one old at b h =
    record {
      fits = omega arith;
      end_is = omega arith;
      text_is = set_split old at b h ∙ ap (λ n. take at old ++ (b ∷ drop n old)) (sym (add-one at));
    }

-- what the loop of `put` ends in
pub put-done : (old new s : Text) (at start count : ℕ) → start ≡ put_start old at → count ≡ put_count old at s → new ≡ paste old start s count
    → (start + count ≡ put_end old at s) × (new ≡ put_at old at s)
unfolding put_end put_at
put-done old new s at start count p n e = (rw (p, n), e ∙ append_assoc (take start old) (take count s) (drop (start + count) old) ∙ rw (p, n))

-- `put`, where there is room
pub put-fits : (old new : Text) (at : ℕ) (s : Text) (end : ℕ) → at + length s ≤ length old → end ≡ put_end old at s → new ≡ put_at old at s
    → Put old new at s end
unfolding put_end put_at
put-fits old new at s end h e f =
    let p : put_start old at ≡ at = min-eq_left (omega (arith, h)) in
    let n : min (length s) (length old - at) ≡ length s = min-eq_left (omega (arith, h)) in
    record { fits = h; end_is = e ∙ rw (p, n); text_is = f ∙ rw (p, n, take-length s) }

pub begun-none : {old whole : Text} → length whole ≤ length old → Begun old old whole 0 whole
begun-none h = record { room = h; inside = omega arith; ahead = refl; so_far = refl }

module _ {old buffer whole rest : Text} {at : ℕ} (g : Begun old buffer whole at rest) where
  front_length : length (take at whole) ≡ at
  front_length = length-take at whole ∙ omega (arith, g.inside)

  pub begun-length : length buffer ≡ length old
  begun-length = rw (g.so_far, length-append, front_length, length-drop) (omega (arith, g.room, g.inside))

  rest-free : drop at buffer ≡ drop at old
  rest-free = ap (drop at) g.so_far ∙ drop_at (take at whole) (drop at old) at front_length

  front_kept : take at buffer ≡ take at whole
  front_kept = ap (take at) g.so_far ∙ take_at (take at whole) (drop at old) at front_length

  free : take (length buffer - at) (drop at buffer) ≡ drop at old
  free = take_all (length buffer - at) (drop at buffer) (rw length-drop (omega arith)) ∙ rest-free

-- where all is written
module _ {old buffer whole : Text} {at : ℕ} (g : Begun old buffer whole at []) where
  pub begun-end : Put old buffer 0 whole at
  begun-end =
      let j : at ≡ length whole = omega (arith, g.inside, length-drop at whole, ap length g.ahead) in
      let z : length whole ≡ 0 + length whole = omega arith in
      record { fits = omega (arith, g.room); end_is = j ∙ z; text_is = g.so_far ∙ rw (j, take-length whole) (ap (λ i. whole ++ drop i old) z) }

  pub begun_all : Put old buffer 0 whole (length whole)
  begun_all = record { fits = begun-end.fits; end_is = omega arith; text_is = begun-end.text_is }

-- a write into the part from i to the end
rest_put : (l z : Text) (i : ℕ) → put_mid i (length l - i) l z ≡ take i l ++ z
rest_put l z i =
    ap (λ r. take i l ++ (z ++ r)) (drop_of_length-le (drop i l) {i = length l - i} (rw length-drop (omega arith))) ∙ ap (λ r. take i l ++ r) (append-nil z)

-- a piece more behind the earlier ones
module _ {old buffer whole : Text} {at : ℕ} (piece rest : Text) (g : Begun old buffer whole at (piece ++ rest)) where
  pub piece-fits : at + length piece ≤ length whole
  piece-fits = omega (arith, g.inside, length-drop at whole, ap length g.ahead, length-append piece rest)

  front-more : take (at + length piece) whole ≡ take at whole ++ piece
  front-more =
      take-add at (length piece) whole ∙ ap (λ r. take at whole ++ r) (ap (take (length piece)) g.ahead ∙ take_at piece rest (length piece) refl)

  begun_more : {new : Text} {end : ℕ} → end ≡ at + length piece → new ≡ take at buffer ++ (piece ++ drop (at + length piece) old)
      → Begun old new whole end rest
  begun_more e t =
      record {
        room = g.room;
        inside = omega (arith, piece-fits, e);
        ahead = rw e (sym (drop-drop (length piece) at whole) ∙ ap (drop (length piece)) g.ahead ∙ drop_at piece rest (length piece) refl);
        so_far = t ∙ rw (front_kept g, e, front-more, append_assoc);
      }

  -- by `put`, at the place behind them
  pub begun-put : {new : Text} {end : ℕ} → end ≡ put_end buffer at piece → new ≡ put_at buffer at piece → Begun old new whole end rest
  begun-put {new} {end} e t =
      let p = put-fits buffer new at piece end (omega (arith, g.room, begun-length g, piece-fits)) e t in
      let free : drop (at + length piece) buffer ≡ drop (at + length piece) old =
      sym (drop-drop (length piece) at buffer) ∙ ap (drop (length piece)) (rest-free g) ∙ drop-drop (length piece) at old in
      begun_more p.end_is (p.text_is ∙ ap (λ r. take at buffer ++ (piece ++ r)) free)

  -- into the part of the buffer that they left free
  pub piece-room : length piece ≤ length (take (length buffer - at) (drop at buffer))
  piece-room = rw (length-take, length-drop) (omega (arith, g.room, begun-length g, piece-fits))

  piece-text : {y : Text} {n : ℕ} → Put (take (length buffer - at) (drop at buffer)) y 0 piece n → y ≡ piece ++ drop (at + length piece) old
  piece-text p =
      let j : at + (0 + length piece) ≡ at + length piece = omega arith in
      p.text_is ∙ ap (λ r. piece ++ drop (0 + length piece) r) (free g)
      ∙ ap (λ r. piece ++ r) (drop-drop (0 + length piece) at old ∙ ap (λ i. drop i old) j)

  pub piece-put : {y : Text} {n : ℕ} → Put (take (length buffer - at) (drop at buffer)) y 0 piece n
      → Begun old (put_mid at (length buffer - at) buffer y) whole (at + n) rest
  piece-put {y} {n} p =
      let e : at + n ≡ at + length piece = omega (arith, p.end_is) in
      begun_more e (rest_put buffer y at ∙ ap (λ r. take at buffer ++ r) (piece-text p))
