-- Bits laid one after the other into the bytes that hold them. Assumes nothing.
use Prim.Native.Nat.{ℕ, suc, ◌+◌, ◌-◌, ◌*◌, ◌/◌, ◌%◌, ◌^◌, ◌<◌, ◌≤◌}
use mathlib.Core.Path.{◌≡◌, refl, sym, ap, ap₂, ◌∙◌, subst}
use mathlib.Core.Bool.{Bool, cond}
use mathlib.Core.List.{List, [], ◌∷◌, ◌++◌, append_assoc, append-nil}
use native.Mathlib.Omega.{arith}
use lib.ListN.{length, get_or, set, drop, length-append, length-drop, get_or-append}
use lib.Seq.{drop-cons, set_at, set-append_left, get_or-set_same}
use Rattle.sets.proofs.Places.{at_in}
use Rattle.image_fields.specs.Fields.{bytes_for, bytes_of}
use Rattle.image_fields.proofs.Bytes.{bytes-length, from-small, bytes-more-new, bytes-more-old}
use Rattle.image_write.specs.Parts.{overlaid, RoomFor, LaidBits}

-- ---- one bit more

module _ {o : List ℕ} (old : List ℕ) (l : List Bool) (b : Bool) {at x : ℕ} (n : length l ≡ at) (e : o ≡ overlaid l old) (w : x ≡ cond b (2 ^ (7 - at % 8)) 0)
    (r : at + 1 ≤ 8 * length o) where
  size : length (bytes_of l) ≡ bytes_for at
  size = bytes-length l ∙ ap bytes_for n

  next : bytes_for (length (l ++ (b ∷ []))) ≡ suc (at / 8)
  next = omega (arith, length-append l (b ∷ []))

  -- the first of a byte
  pub bit-new : at % 8 ≡ 0 → set o (at / 8) x ≡ overlaid (l ++ (b ∷ [])) old
  bit-new z =
      let q : bytes_for at ≡ at / 8 = omega arith in
      let h : at / 8 < length old = omega (arith, simp (length-append, length-drop) at (ap length e), size) in
      let f = ap (λ i. drop i old) (ap bytes_for n ∙ q) ∙ drop-cons old (at / 8) 0 h in
      let v : x ≡ cond b (2 ^ 7) 0 = w ∙ ap (λ i. cond b (2 ^ (7 - i)) 0) z in
      ap (λ u. set u (at / 8) x) (e ∙ ap (bytes_of l ++◌) f)
      ∙ set_at (bytes_of l) _ (drop (suc (at / 8)) old) x (at / 8) (size ∙ q)
      ∙ sym (append_assoc (bytes_of l) (x ∷ []) (drop (suc (at / 8)) old))
      ∙ ap₂ (λ u i. u ++ drop i old) (ap (λ i. bytes_of l ++ (i ∷ [])) v ∙ sym (bytes-more-new l b (ap (◌% 8) n ∙ z))) (sym next)

  module _ (z : at % 8 ≡ 0 → ⊥) where
    inside : at / 8 < length (bytes_of l)
    inside = omega (arith, size)

    here : get_or o (at / 8) 0 ≡ get_or (bytes_of l) (at / 8) 0
    here = ap (λ u. get_or u (at / 8) 0) e ∙ get_or-append (bytes_of l) _ 0 (at / 8) inside

    more : bytes_of (l ++ (b ∷ [])) ≡ set (bytes_of l) (at / 8) (get_or o (at / 8) 0 + x)
    more = rw (here, w, ← n) (bytes-more-old l b (λ k. z (ap (◌% 8) (sym n) ∙ k)))

    -- one of those that follow
    pub bit-old : set o (at / 8) (get_or o (at / 8) 0 + x) ≡ overlaid (l ++ (b ∷ [])) old
    bit-old =
        let f : bytes_for (length l) ≡ bytes_for (length (l ++ (b ∷ []))) = omega (arith, next, size, bytes-length l, inside) in
        ap (λ u. set u (at / 8) (get_or o (at / 8) 0 + x)) e ∙ set-append_left (bytes_of l) _ (at / 8) _ inside ∙ ap₂ (λ u i. u ++ drop i old) (sym more) f

    -- the byte stays one
    pub bit-fits : get_or o (at / 8) 0 + x < 256
    bit-fits =
        let m = l ++ (b ∷ []) in
        let g = ap (λ u. get_or u (at / 8) 0) more ∙ get_or-set_same (bytes_of l) (at / 8) _ 0 inside in
        omega (arith, g, from-small (bytes_for (length m)) m _ (at_in (bytes_of m) (at / 8) 0 (omega (arith, bytes-length m, next))))

-- ---- bits after bits

laid_none : {o : List ℕ} {at : ℕ} → LaidBits o o at at []
laid_none = record { place = omega arith; adds = λ l old n e. e ∙ ap (λ u. overlaid u old) (sym (append-nil l)) }

laid_then : {o o' o'' : List ℕ} {at p r : ℕ} {x y : List Bool} → LaidBits o o' at p x → LaidBits o' o'' p r y → LaidBits o o'' at r (x ++ y)
laid_then {x = x} {y = y} g k = record {
  place = omega (arith, g.place, k.place, length-append x y);
  adds = λ l old n e. k.adds (l ++ x) old (length-append l x ∙ omega (arith, g.place)) (g.adds l old n e) ∙ ap (λ u. overlaid u old) (append_assoc l x y);
}

-- of the bits bs the rest is due from bit p on: once it is laid all are, and there is room for it
pub record Going (o : List ℕ) (at : ℕ) (bs : List Bool) (o' : List ℕ) (p : ℕ) (rest : List Bool) : Type 0 where
  pub ends : {o'' : List ℕ} {r : ℕ} → LaidBits o' o'' p r rest → LaidBits o o'' at r bs
  pub room : RoomFor o' p (length rest)
  pub same : length o' ≡ length o

pub going-all : {o : List ℕ} {at : ℕ} (bs : List Bool) → RoomFor o at (length bs) → Going o at bs o at bs
going-all bs r = record { ends = λ k. k; room = r; same = refl }

module _ {o : List ℕ} {at : ℕ} {bs : List Bool} {o' : List ℕ} {p : ℕ} where
  pub going-as : {rest rest' : List Bool} → Going o at bs o' p rest → rest ≡ rest' → Going o at bs o' p rest'
  going-as g e = subst (Going o at bs o' p) e g

  -- there is room for the bits that come next
  pub going-ready : (x rest : List Bool) → Going o at bs o' p (x ++ rest) → RoomFor o' p (length x)
  going-ready x rest g =
      let q = g.room in
      let t = length-append x rest in
      record { bits = q.bits; old = q.old; number = q.number; bytes = q.bytes; room = omega (arith, q.room); short = omega (arith, q.short) }

  pub going_next : {o'' : List ℕ} {r : ℕ} {x rest : List Bool} → Going o at bs o' p (x ++ rest) → LaidBits o' o'' p r x → length o'' ≡ length o'
      → Going o at bs o'' r rest
  going_next {x = x} {rest = rest} g k s =
      let q = g.room in
      let t = length-append x rest in
      record {
        ends = λ j. g.ends (laid_then k j);
        room = record {
          bits = q.bits ++ x;
          old = q.old;
          number = length-append q.bits x ∙ omega (arith, k.place, q.number);
          bytes = k.adds q.bits q.old q.number q.bytes;
          room = omega (arith, q.room, k.place);
          short = omega (arith, q.short, k.place);
        };
        same = s ∙ g.same;
      }

  -- all are laid
  pub going_done : Going o at bs o' p [] → LaidBits o o' at p bs
  going_done g = g.ends laid_none
