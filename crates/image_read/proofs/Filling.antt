-- Cubes and nodes are read and put one after the other. Assumes nothing.
use Prim.Native.Nat.{ℕ, ◌+◌, ◌-◌, ◌*◌, ◌<◌, ◌≤◌}
use mathlib.Core.Path.{◌≡◌, refl, sym, ap, ap₂, subst, ◌∙◌}
use mathlib.Core.Bool.{Bool, ◌&&◌, and-true, and_assoc}
use mathlib.Core.List.{List, [], ◌∷◌, ◌++◌, map, map-append}
use native.Mathlib.Omega.{arith}
use lib.Dec.{leb}
use lib.ListN.{length, take, drop, set, length-append, length-map, length-set}
use borrow.Author.Rules.{rules}
use borrow.Author.Tests.{le-leb, lt-leb}
use Rattle.sets.{specs.Lists.all, specs.Sets.asc, specs.Sets.proper, proofs.Lists.all_append, proofs.Lists.total-append}
use Rattle.cube.specs.Cube.{lits}
use Rattle.expression.specs.Words.{Put, Placed}
use Rattle.expression.proofs.Placing.{placed-none, placed-as, put-placed, placed-then}
use Rattle.network.{specs.Handed.flat, proofs.Handing.flat-last, specs.Held.most_variables, specs.Held.most_cubes}
use Rattle.image_laws.specs.Widths.{edition1, most_cube_bits, most_cubes_bits, most_node_bits}
use Rattle.image_laws.specs.Reading.{Parsed, bad, get_many, get_cube, get_node}
use Rattle.image_read.specs.Parts.{FieldIs, set_of, CubeGot, added, GrowsBy, Gathered, CubesGot, CubesAre, NodesGot}
use Rattle.std.proofs.Common.{Some, None, Result, Ok, Err}
use Rattle.std.proofs.{lemmas.List.take_more_set, Math.Seq.take-length}
use Rattle.image_read.specs.declared.{fields.Taken.Taken, nodes.State.State, Fault.Fault}
use Rattle.image_read.proofs.Fielding.{field_cut, field-bad, field-got}
use Rattle.image_read.proofs.Going.{Begun, going-none, going_next, going_end}

-- ---- what was put

pub added_none : (s : State) (ws : List ℕ) → Gathered s s ws ws []
added_none s ws = record {
  stored = λ h. placed-none ws s.cubes;
  places = refl;
  cubes = omega arith;
  literals = omega arith;
  ascending = sym (and-true s.ascending);
  proper = refl;
}

pub added_then : {s t u : State} {a b c : List ℕ} {f g : List (List ℕ)} → Gathered s t a b f → Gathered t u b c g → Gathered s u a c (f ++ g)
added_then {s} {t} {u} {a} {b} {c} {f} {g} p q = record {
  stored = λ h.
      let n = length-append f g in
      let e : t.cubes ≡ s.cubes + length (map set_of f) = omega (arith, p.cubes, length-map f set_of) in
      let x = q.stored (omega (arith, p.cubes, p.places)) in
      placed-as (sym (map-append set_of f g))
      (placed-then (p.stored (omega arith)) (omega (arith, length-map f set_of)) (subst (λ i. Placed b c i (map set_of g)) e x));
  places = q.places ∙ p.places;
  cubes = omega (arith, p.cubes, q.cubes, length-append f g);
  literals = omega (arith, p.literals, q.literals, total-append length f g);
  ascending =
      q.ascending ∙ ap (◌&& all asc g) p.ascending ∙ and_assoc s.ascending (all asc f) (all asc g) ∙ ap (s.ascending &&◌) (sym (all_append asc f g));
  proper = all_append proper f g ∙ ap₂ ◌&&◌ p.proper q.proper;
}

added-one : {most : ℕ} {bits : List Bool} {start : ℕ} {g : Parsed (List ℕ)} {c : Taken} (h : CubeGot most bits start g c) (s : State) (old new : List ℕ)
    → Put old new s.cubes (lits c.cube) → Gathered s (added s c) old new (h.read ∷ [])
added-one h s old new p = record {
  stored = λ r. placed-as (ap (◌∷ []) h.cube) (put-placed (omega arith) p);
  places = ap length p.cubes ∙ simp length-set;
  cubes = omega arith;
  literals = omega (arith, h.literals);
  ascending = ap (s.ascending &&◌) (h.ascending ∙ sym (and-true (asc h.read)));
  proper = and-true (proper h.read) ∙ h.proper;
}

-- ---- cubes

-- i of k cubes are read and put
pub record Filling (bits : List Bool) (v k i : ℕ) (start : State) (old new : List ℕ) (s : State) : Type 0 where
  pub read : List (List ℕ)
  pub going : Begun (get_cube v) k i (drop start.at bits) (drop s.at bits) read
  pub put : Gathered start s old new read
  pub near : GrowsBy (most_cube_bits * i) start s

pub fill_none : (bits : List Bool) (v k : ℕ) (start : State) (ws : List ℕ) → Filling bits v k 0 start ws ws start
fill_none bits v k start ws = record {
  read = [];
  going = going-none (get_cube v) k (drop start.at bits);
  put = added_none start ws;
  near = search rules;
}

module _ {bits : List Bool} {v k i : ℕ} {start : State} {old new : List ℕ} {s : State} (h : Filling bits v k i start old new s) where
  pub fill-next : i < k → (c : Taken) → CubeGot most_cube_bits bits s.at (get_cube v (drop s.at bits)) c → (new' : List ℕ)
      → Put new new' s.cubes (lits c.cube)
      → (t : State) → t ≡ added s c → Filling bits v k (i + 1) start old new' t
  fill-next more c q new' p t e = subst (Filling bits v k (i + 1) start old new') (sym e) (record {
    read = h.read ++ (q.read ∷ []);
    going = going_next (get_cube v) k h.going more q.read (drop c.at bits) q.is;
    put = added_then h.put (added-one q s new new' p);
    near = search rules;
  })

  pub fill_end : k ≤ i → i ≤ most_cubes → CubesGot most_cubes_bits bits start (get_many (get_cube v) k (drop start.at bits)) old new s
  fill_end done few = record {
    read = h.read;
    is = going_end (get_cube v) k h.going done;
    put = h.put;
    near = search rules;
  }

-- ---- a node

-- after the cube count
abbrev past : State → State
past s = record { at = s.at + edition1.cubes; cubes = s.cubes; literals = s.literals; ascending = s.ascending }

module _ (bits : List Bool) (v : ℕ) (s : State) where
  pub node-cut : FieldIs edition1.cubes (drop s.at bits) None → get_node v (drop s.at bits) ≡ bad 11
  unfolding get_node
  node-cut h = rw (field_cut edition1.cubes (λ c. leb c most_cubes) (drop s.at bits) h)

  module _ (k : ℕ) (h : FieldIs edition1.cubes (drop s.at bits) (Some k)) where
    pub node-bad : most_cubes < k → get_node v (drop s.at bits) ≡ bad 12
    unfolding get_node
    node-bad m = rw (field-bad edition1.cubes (λ c. leb c most_cubes) (drop s.at bits) k h (lt-leb k most_cubes m))

    node-on : k ≤ most_cubes → get_node v (drop s.at bits) ≡ get_many (get_cube v) k (drop (past s).at bits)
    unfolding get_node
    node-on m = rw (field-got edition1.cubes (λ c. leb c most_cubes) bits s.at k h (le-leb k most_cubes m))

    -- the cubes after the count
    pub node-are : k ≤ most_cubes → (old new : List ℕ) (r : Result State Fault)
        → CubesAre most_cubes_bits bits (past s) (get_many (get_cube v) k (drop (past s).at bits)) old new r
        → CubesAre most_node_bits bits s (get_node v (drop s.at bits)) old new r
    node-are m old new (Err e) q = node-on m ∙ q
    node-are m old new (Ok t) c = record {
      read = c.read;
      is = node-on m ∙ c.is;
      put = let p = c.put in record {
        stored = p.stored;
        places = p.places;
        cubes = p.cubes;
        literals = p.literals;
        ascending = p.ascending;
        proper = p.proper;
      };
      near = search rules;
    }

-- ---- nodes

-- i of k nodes are read and put, and counted
pub record Counting (bits : List Bool) (v k i : ℕ) (start : State) (old new counts : List ℕ) (s : State) : Type 0 where
  pub read : List (List (List ℕ))
  pub going : Begun (get_node v) k i (drop start.at bits) (drop s.at bits) read
  pub put : Gathered start s old new (flat read)
  pub counted : take i counts ≡ map length read
  pub near : GrowsBy (most_node_bits * i) start s

pub count_none : (bits : List Bool) (v k : ℕ) (start : State) (ws cs : List ℕ) → Counting bits v k 0 start ws ws cs start
count_none bits v k start ws cs = record {
  read = [];
  going = going-none (get_node v) k (drop start.at bits);
  put = added_none start ws;
  counted = refl;
  near = search rules;
}

module _ {bits : List Bool} {v k i : ℕ} {start : State} {old new counts : List ℕ} {s : State} (h : Counting bits v k i start old new counts s) where
  pub count_next : i < k → i < length counts → (new' : List ℕ) (t : State) → CubesGot most_node_bits bits s (get_node v (drop s.at bits)) new new' t
      → Counting bits v k (i + 1) start old new' (set counts i (t.cubes - s.cubes)) t
  count_next more there new' t c = record {
    read = h.read ++ (c.read ∷ []);
    going = going_next (get_node v) k h.going more c.read (drop t.at bits) c.is;
    put = subst (Gathered start t old new') (sym (flat-last h.read c.read)) (added_then h.put c.put);
    counted =
        let b : t.cubes - s.cubes ≡ length c.read = omega (arith, c.put.cubes) in
        take_more_set counts i (t.cubes - s.cubes) there ∙ ap₂ (λ l x. l ++ (x ∷ [])) h.counted b ∙ sym (map-append length h.read (c.read ∷ []));
    near = search rules;
  }

  pub count-end : i ≡ k → k ≡ length counts → i ≤ most_variables → NodesGot k bits start (get_many (get_node v) k (drop start.at bits)) old new counts s
  count-end done whole few = record {
    read = h.read;
    number = omega (arith, h.going.number);
    is = going_end (get_node v) k h.going (omega arith);
    put = h.put;
    counted = sym (take-length counts) ∙ ap (λ n. take n counts) (sym (done ∙ whole)) ∙ h.counted;
    near = search rules;
  }
