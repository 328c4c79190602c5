-- Numbers listed one after the other. Assumes nothing.
use Prim.Native.Nat.{ℕ, ◌+◌, ◌<◌, ◌≤◌}
use mathlib.Core.Path.{◌≡◌, refl, sym, ap, ◌∙◌}
use mathlib.Core.List.{List, [], ◌∷◌, ◌++◌, append-nil, append_assoc}
use native.Mathlib.Omega.{arith}
use lib.ListN.{length, take, set, length-append, length-set}
use Rattle.sets.proofs.Rows.{take-store}
use Rattle.extract_partners.specs.Table.{Listed}

listed-none : (ws : List ℕ) (at : ℕ) → Listed ws ws at [] at
listed-none ws at = record { next = omega arith; long = refl; front = sym (append-nil (take at ws)) }

listed-put : (ws : List ℕ) (n x : ℕ) → n < length ws → Listed ws (set ws n x) n (x ∷ []) (n + 1)
listed-put ws n x h = record { next = refl; long = length-set ws n x; front = take-store ws n x h }

listed_then : {a b c : List ℕ} {at n r : ℕ} {xs ys : List ℕ} → Listed a b at xs n → Listed b c n ys r → Listed a c at (xs ++ ys) r
listed_then {a = a} {at = at} {xs = xs} {ys = ys} p q = record {
  next = omega (arith, p.next, q.next, length-append xs ys);
  long = q.long ∙ p.long;
  front = q.front ∙ ap (◌++ ys) p.front ∙ append_assoc (take at a) xs ys;
}

pub listed-as : {a b : List ℕ} {at r : ℕ} {xs ys : List ℕ} → xs ≡ ys → Listed a b at xs r → Listed a b at ys r
listed-as e p = rw e at p

-- of the numbers `whole` those before `rest` are listed
pub record Listing (old new : List ℕ) (at n : ℕ) (rest whole : List ℕ) : Type 0 where
  pub done : List ℕ
  pub stand : Listed old new at done n
  pub sum : done ++ rest ≡ whole
  pub room : at + length whole ≤ length old

pub listing-first : (ws : List ℕ) (at : ℕ) (whole : List ℕ) → at + length whole ≤ length ws → Listing ws ws at at whole whole
listing-first ws at whole h = record { done = []; stand = listed-none ws at; sum = refl; room = h }

pub listing-as : {old new : List ℕ} {at n : ℕ} {rest next whole : List ℕ} → rest ≡ next → Listing old new at n rest whole → Listing old new at n next whole
listing-as e p = rw e at p

module _ {old new : List ℕ} {at n : ℕ} {whole : List ℕ} where
  pub listing-room : (xs rest : List ℕ) → Listing old new at n (xs ++ rest) whole → n + length xs ≤ length new
  listing-room xs rest p = omega (
    arith,
    p.room,
    p.stand.next,
    p.stand.long,
    ap length p.sum,
    length-append p.done (xs ++ rest),
    length-append xs rest,
  )

  pub listing-then : (xs rest : List ℕ) {next : List ℕ} {r : ℕ} → Listing old new at n (xs ++ rest) whole → Listed new next n xs r
      → Listing old next at r rest whole
  listing-then xs rest p q = record {
    done = p.done ++ xs;
    stand = listed_then p.stand q;
    sum = append_assoc p.done xs rest ∙ p.sum;
    room = p.room;
  }

  pub listing-put : {x : ℕ} {rest : List ℕ} → Listing old new at n (x ∷ rest) whole → Listing old (set new n x) at (n + 1) rest whole
  listing-put {x = x} {rest = rest} p = listing-then (x ∷ []) rest p (listed-put new n x (omega (arith, listing-room (x ∷ []) rest p)))

  pub listing-end : Listing old new at n [] whole → Listed old new at whole n
  listing-end p = listed-as (sym (append-nil p.done) ∙ p.sum) p.stand
