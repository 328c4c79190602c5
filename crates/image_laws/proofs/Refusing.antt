-- When an image is refused, and by which number. Assumes nothing.
use Prim.Native.Nat.{ℕ, ◌<◌}
use mathlib.Core.Path.{◌≡◌, refl, sym, ap, ◌∙◌, subst}
use mathlib.Core.Logic.{◌↔◌}
use mathlib.Core.Bool.{Bool, true, false, cond}
use mathlib.Core.List.{List, [], ◌++◌, append_assoc, append-nil}
use native.Mathlib.Omega.{arith}
use lib.ListN.{length, length-append}
use Rattle.image_fields.specs.Fields.{bits_in}
use Rattle.network.specs.Handed.{Return, gives, refuses}
use Rattle.image_laws.specs.Reading.{Parsed, got, Raw, get_raw, raw_net, padding, summed, all_in_order, judge_raw, read_image}
use Rattle.image_laws.specs.Layout.{image_layout, Meets, Cut}
use Rattle.image_laws.specs.Meaning.{FitRaw, raw_bits, Fills, ImageAnswer, range, early, over, sums, order, taken}
use Rattle.image_laws.proofs.Reading.{get-put, put-get}
use Rattle.image_laws.proofs.Meeting.{Along, all, strays, stops, raw-along, stray-read, cut-read}

-- the beginning of fields in range ends early
pub begins-early : (r : Raw) (l m : List Bool) → FitRaw r → raw_bits r ≡ l ++ m → 0 < length m → Meets Cut image_layout l
begins-early r l m f e h = go (raw-along l) refl
  where
    whole : get_raw (l ++ m) ≡ got r []
    whole = ap get_raw (sym e ∙ sym (append-nil (raw_bits r))) ∙ get-put r [] f

    go : {o : Parsed Raw} → Along image_layout l o → get_raw l ≡ o → Meets Cut image_layout l
    go (stops t) q = t
    go (strays t) q = let z : ◌≡◌ {A = ℕ} 0 1 = cc (whole, stray-read m t) in absurd (omega arith)
    go (all {r = x} {rest = t}) q =
        let p = put-get l x t q in
        let n : t ++ m ≡ [] = cc (whole, ap (λ k. get_raw (k ++ m)) p.0, append_assoc (raw_bits x) t m, get-put x (t ++ m) p.1) in
        absurd (omega (arith, length-append t m, ap length n))

fills-in : (bytes : List ℕ) (r : Raw) (rest : List Bool) → get_raw (bits_in bytes) ≡ got r rest → Fills bytes r rest
fills-in bytes r rest h = let q = put-get (bits_in bytes) r rest h in record { bits = q.0; fits = q.1 }

fills-out : (bytes : List ℕ) (r : Raw) (rest : List Bool) → Fills bytes r rest → get_raw (bits_in bytes) ≡ got r rest
fills-out bytes r rest s = ap get_raw s.bits ∙ get-put r rest s.fits

pub judged : (bytes : List ℕ) → ImageAnswer bytes (read_image bytes)
unfolding read_image judge_raw
judged bytes = go (raw-along (bits_in bytes)) refl
  where
    whole : (r : Raw) (l : List Bool) (a b c : Bool) → Fills bytes r l → padding l ≡ a → summed r ≡ b → all_in_order r ≡ c
        → ImageAnswer bytes (cond a (cond b (cond c (gives (raw_net r)) (refuses 13)) (refuses 12)) (refuses 11))
    whole r l true true true s p q o = taken s p q o
    whole r l true true false s p q o = order s p q o
    whole r l true false c s p q o = sums s p q
    whole r l false b c s p q o = over s p

    go : {o : Parsed Raw} → Along image_layout (bits_in bytes) o → get_raw (bits_in bytes) ≡ o → ImageAnswer bytes (judge_raw o)
    go (all {r = r} {rest = l}) e = whole r l (padding l) (summed r) (all_in_order r) (fills-in bytes r l e) refl refl refl
    go (strays m) e = range m
    go (stops m) e = early m

-- and no answer is given for another reason
pub judged-read : (bytes : List ℕ) {o : Return} → ImageAnswer bytes o → read_image bytes ≡ o
unfolding read_image judge_raw
judged-read bytes (range m) = rw (sym (ap get_raw (append-nil (bits_in bytes))) ∙ stray-read [] m)
judged-read bytes (early m) = rw (cut-read (bits_in bytes) m)
judged-read bytes (over {r = r} {rest = l} s p) = rw (fills-out bytes r l s, p)
judged-read bytes (sums {r = r} {rest = l} s p q) = rw (fills-out bytes r l s, p, q)
judged-read bytes (order {r = r} {rest = l} s p q o) = rw (fills-out bytes r l s, p, q, o)
judged-read bytes (taken {r = r} {rest = l} s p q o) = rw (fills-out bytes r l s, p, q, o)

pub judged-iff : (bytes : List ℕ) (o : Return) → (read_image bytes ≡ o) ↔ ImageAnswer bytes o
judged-iff bytes o = (λ h. subst (ImageAnswer bytes) h (judged bytes), judged-read bytes)
