-- The cubes as one literal parts them in place, one cube after the other. Assumes nothing.
use Prim.Native.Nat.{ℕ, ◌+◌, ◌-◌, ◌*◌, ◌<◌, ◌≤◌}
use mathlib.Core.Path.{◌≡◌, sym, ◌∙◌, ap}
use mathlib.Core.Bool.{true, false, not}
use mathlib.Core.List.{List, [], ◌∷◌, ◌++◌, map, map-append, append-nil}
use native.Mathlib.Omega.{arith}
use lib.ListN.{length, get_or, take, drop, set, length-drop}
use lib.Seq.{length-take-le, drop-set-lt, drop-drop, get_or-drop, take_all}
use Rattle.std.proofs.lemmas.List.{take_more}
use Rattle.sets.{specs.Lists.keep, proofs.Lists.keep_append, proofs.Rows.take-store}
use borrow.Author.Tests.{lt-ltb}
use Rattle.sets.specs.Sets.{mem, without, insert}
use Rattle.cube.specs.Cube.{joined, width}
use Rattle.expression.specs.Words.{cubes_of, Placed, fitting}
use Rattle.expression.proofs.Placing.{placed-as, placed-before, placed-own, placed-length, placed-fitting}
use Rattle.factor.specs.Form.{divided_by, rest}
use Rattle.factor.specs.Parts.{Gathered, Parted}

-- lists that agree from a place on
module _ {A : Type 0} (f g : List A) (i : ℕ) (same : drop i g ≡ drop i f) where
  pub back_at : (d : A) → get_or g i d ≡ get_or f i d
  back_at d =
      let e : i + 0 ≡ i = omega arith in
      ap (λ n. get_or g n d) (sym e) ∙ sym (get_or-drop i g 0 d) ∙ ap (λ l. get_or l 0 d) same ∙ get_or-drop i f 0 d ∙ ap (λ n. get_or f n d) e

  pub back-next : drop (i + 1) g ≡ drop (i + 1) f
  back-next = sym (drop-drop 1 i g) ∙ ap (drop 1) same ∙ drop-drop 1 i f

-- ---- one cube more

module _ (l : ℕ) (f : List (List ℕ)) (c : List ℕ) where
  pub divided_by-yes : mem l c ≡ true → divided_by l (f ++ (c ∷ [])) ≡ divided_by l f ++ (without c (l ∷ []) ∷ [])
  divided_by-yes h = ap (map (λ d. without d (l ∷ []))) (keep_append (mem l) f (c ∷ []) ∙ ap (keep (mem l) f ++◌) (rw h))
      ∙ map-append (λ d. without d (l ∷ [])) (keep (mem l) f) (c ∷ [])

  pub divided_by-no : mem l c ≡ false → divided_by l (f ++ (c ∷ [])) ≡ divided_by l f
  divided_by-no h = ap (map (λ d. without d (l ∷ []))) (keep_append (mem l) f (c ∷ []) ∙ ap (keep (mem l) f ++◌) (rw h) ∙ append-nil (keep (mem l) f))

  pub rest-yes : mem l c ≡ true → rest l (f ++ (c ∷ [])) ≡ rest l f
  rest-yes h = keep_append (λ d. not (mem l d)) f (c ∷ []) ∙ ap (rest l f ++◌) (rw h) ∙ append-nil (rest l f)

  pub rest-no : mem l c ≡ false → rest l (f ++ (c ∷ [])) ≡ rest l f ++ (c ∷ [])
  rest-no h = keep_append (λ d. not (mem l d)) f (c ∷ []) ∙ ap (rest l f ++◌) (rw h)

-- the first i cubes are parted: m of them, with l, stand in front, the rest are spare; from i on none is changed
pub record Parting (f g s : List (List ℕ)) (m i l : ℕ) : Type 0 where
  pub most : m ≤ i
  pub first : take m g ≡ divided_by l (take i f)
  pub second : take (i - m) s ≡ rest l (take i f)
  pub back : drop i g ≡ drop i f

module _ {f g s : List (List ℕ)} {m i l : ℕ} (p : Parting f g s m i l) (inside : i < length f) where
  more : take (i + 1) f ≡ take i f ++ (get_or f i [] ∷ [])
  more = take_more f i [] inside

  pub parting-yes : mem l (get_or f i []) ≡ true → i < length g → Parting f (set g m (without (get_or f i []) (l ∷ []))) s (m + 1) (i + 1) l
  parting-yes h k =
      let e : i + 1 - (m + 1) ≡ i - m = omega arith in
      record {
        most = omega (arith, p.most);
        first = take-store g m _ (omega (arith, p.most)) ∙ ap (◌++ (without (get_or f i []) (l ∷ []) ∷ [])) p.first
            ∙ sym (ap (divided_by l) more ∙ divided_by-yes l (take i f) (get_or f i []) h);
        second = ap (λ n. take n s) e ∙ p.second ∙ sym (ap (rest l) more ∙ rest-yes l (take i f) (get_or f i []) h);
        back = drop-set-lt (i + 1) g m _ (omega (arith, p.most)) ∙ back-next f g i p.back;
      }

  pub parting-no : mem l (get_or f i []) ≡ false → i < length s → Parting f g (set s (i - m) (get_or f i [])) m (i + 1) l
  parting-no h k =
      let e : i + 1 - m ≡ i - m + 1 = omega (arith, p.most) in
      record {
        most = omega (arith, p.most);
        first = p.first ∙ sym (ap (divided_by l) more ∙ divided_by-no l (take i f) (get_or f i []) h);
        second = ap (λ n. take n (set s (i - m) (get_or f i []))) e ∙ take-store s (i - m) _ (omega arith) ∙ ap (◌++ (get_or f i [] ∷ [])) p.second
            ∙ sym (ap (rest l) more ∙ rest-no l (take i f) (get_or f i []) h);
        back = back-next f g i p.back;
      }

-- all are
pub parting-all : {old new spare : List ℕ} {m l : ℕ} (i : ℕ) → i ≡ length (cubes_of old) → Parting (cubes_of old) (cubes_of new) (cubes_of spare) m i l
    → Gathered old new spare m l
parting-all {old} {spare = spare} {m} {l} i e p =
    let whole = take_all i (cubes_of old) (omega arith) in
    record {
      most = omega (arith, p.most);
      first = p.first ∙ ap (divided_by l) whole;
      second = ap (λ n. take (n - m) (cubes_of spare)) (sym e) ∙ p.second ∙ ap (rest l) whole;
    }

-- the cube of one literal alone
pub joined-one : (l : ℕ) → l < 2 * width → joined l [] ≡ l ∷ []
unfolding insert
joined-one l h = rw (lt-ltb l (2 * width) h)

-- gathered, and the rest copied back: parted
pub copied-back : {old mid new spare : List ℕ} {m n l : ℕ} → Gathered old mid spare m l → n ≡ length (cubes_of old) - m
    → Placed mid new m (fitting mid m (take (n - 0) (drop 0 (cubes_of spare))))
    → length (cubes_of mid) ≡ length (cubes_of old) → length (cubes_of old) ≤ length (cubes_of spare) → Parted old new m l
copied-back {old} {mid} {new} {spare} {m} {n} {l} p e q k r =
    let others = rest l (cubes_of old) in
    let z : n - 0 ≡ length (cubes_of old) - m = omega arith in
    let many : length others ≡ length (cubes_of old) - m = sym (ap length p.second) ∙ length-take-le _ (cubes_of spare) (omega arith) in
    let w : Placed mid new m others =
    placed-fitting others (omega (arith, p.most)) (placed-as (ap (fitting mid m) (ap (λ i. take i (cubes_of spare)) z ∙ p.second)) q) in
    let size : length (drop m (cubes_of new)) ≡ length others = omega (arith, length-drop m (cubes_of new), placed-length w (omega (arith, p.most)), p.most) in
    record {
      most = p.most;
      first = placed-before w (omega (arith, p.most)) ∙ p.first;
      second = sym (take_all (length others) (drop m (cubes_of new)) (omega arith)) ∙ placed-own w (omega (arith, p.most));
    }
