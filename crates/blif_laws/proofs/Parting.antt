-- Parts one after the other are the lines, and lines laid out in parts are parted so, by induction on the lines. Assumes nothing.
use mathlib.Core.Path.{◌≡◌, refl, ap, ◌∙◌}
use mathlib.Core.Bool.{Bool, true, false, cond, not, ◌&&◌}
use mathlib.Core.List.{List, [], ◌∷◌, ◌++◌, map, append-nil}
use Prim.Native.Nat.{ℕ}
use borrow.Author.Tests.{not-true}
use Rattle.sets.{specs.Lists.all, proofs.Truth.both}
use Rattle.network.specs.Handed.{flat}
use Rattle.blif_laws.specs.Reading.{Part, Parted, pointed, parts_of}

-- the lines of parts
abbrev pub part_lines : List Part → List (List ℕ)
part_lines ps = flat (map (λ (p : Part). p.head ∷ p.rows) ps)

pub parts_out : (ls : List (List ℕ)) → ls ≡ (parts_of ls).ahead ++ part_lines (parts_of ls).parts
unfolding parts_of
parts_out [] = refl
parts_out (l ∷ ls) = go (pointed l) (parts_of ls) (parts_out ls)
  where
    go : (b : Bool) (p : Parted) → ls ≡ p.ahead ++ part_lines p.parts
        → let q : Parted = cond b
        (record { ahead = []; parts = record { head = l; rows = p.ahead } ∷ p.parts })
        (record { ahead = l ∷ p.ahead; parts = p.parts })
        in l ∷ ls ≡ q.ahead ++ part_lines q.parts
    go true p e = ap (l ∷◌) e
    go false p e = ap (l ∷◌) e

-- a part begins with a point, and none of its rows does
abbrev pub is_part : Part → Bool
is_part p = pointed p.head && all (λ l. not (pointed l)) p.rows

parts-rows : (rs ls : List (List ℕ)) → all (λ l. not (pointed l)) rs ≡ true
    → parts_of (rs ++ ls) ≡ record { ahead = rs ++ (parts_of ls).ahead; parts = (parts_of ls).parts }
unfolding parts_of
parts-rows [] ls h = refl
parts-rows (r ∷ rs) ls h =
    let k = both (not (pointed r)) (all (λ l. not (pointed l)) rs) h in
    rw (not-true (pointed r) k.0) (ap (λ (p : Parted). record { ahead = r ∷ p.ahead; parts = p.parts }) (parts-rows rs ls k.1))

pub parts_in : (ps : List Part) → all is_part ps ≡ true → parts_of (part_lines ps) ≡ record { ahead = []; parts = ps }
unfolding parts_of
parts_in [] h = refl
parts_in (p ∷ ps) h =
    let k = both (is_part p) (all is_part ps) h in
    let i = both (pointed p.head) (all (λ l. not (pointed l)) p.rows) k.0 in
    rw i.0
    (ap (λ (q : Parted). record { ahead = []; parts = record { head = p.head; rows = q.ahead } ∷ q.parts })
    (parts-rows p.rows (part_lines ps) i.1
    ∙ ap (λ (q : Parted). record { ahead = p.rows ++ q.ahead; parts = q.parts }) (parts_in ps k.1)
    ∙ ap (λ (x : List (List ℕ)). record { ahead = x; parts = ps }) (append-nil p.rows)))
