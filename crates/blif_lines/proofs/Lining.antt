-- The line of names: a text holds the words of one line only, so that a walk from name to name finds it wherever it is. Assumes nothing.
use Rattle.std.specs.Prelude.{Some, None}
use Prim.Native.Nat.{ℕ, ◌+◌, ◌<◌, ◌≤◌, max}
use mathlib.Core.Path.{◌≡◌, refl, sym, ◌∙◌, ap, ap₂}
use mathlib.Core.{Logic.inl, Logic.inr, Bool.true, Bool.false}
use mathlib.Core.List.Memᴰ.{head as here}
use mathlib.Core.List.Memᴰ.{tail as there}
use mathlib.Core.List.{List, [], ◌∷◌, ◌++◌, append-nil, append_assoc}
use mathlib.Core.List.Memᴰ
use native.Mathlib.Omega.{arith}
use borrow.Author.Tests.{lt-ltb, le-leb, ltb-true, leb-true}
use lib.Dec.{leb, ltb}
use lib.ListN.{length, length-append}
use Rattle.sets.specs.{Lists.all, Sets.asc, Word.largest}
use Rattle.sets.proofs.Truth.{both, together, decided, clash}
use Rattle.sets.proofs.Lists.{◌∈◌, all-out, all_append, ahead, pairwise_append}
use Rattle.letters.specs.Letters.{name_text}
use Rattle.blif_laws.specs.Text.{Name, variable, output, name_word, spaced}
use Rattle.blif_laws.{specs.Reading.Named, specs.Meaning.is_clear, proofs.Naming.name-clear, proofs.Naming.name-one}
use Rattle.blif_scan.specs.Scanning.{left, label_of, Small, Starts, by_space, by_line, CalledIs}
use Rattle.blif_scan.proofs.Scanning.{stays}
use Rattle.blif_lines.specs.{Marking.Raised}
use Rattle.blif_lines.specs.Lining.{words_of, variable_in, numbers_in, top_of, Ascends, NamesGot, NamesNot, is_next, turn_of}
use Rattle.blif_lines.specs.Lining.{Follows, Comes, LineFrom, TurnIs, top_after, LastMarked}
use Rattle.blif_scan.specs.declared.{Ended.Ended, Label.Label}
use Rattle.blif_lines.proofs.Marking.{raised-none, raised-on}

-- ---- words

module _ (b e : ℕ) (p : stays b ≡ false) (q : stays e ≡ false) where
  -- one word stands at the front of a text, with one byte after it
  pub one_word : (w u x y : List ℕ) → is_clear w ≡ true → is_clear u ≡ true → w ++ (b ∷ x) ≡ u ++ (e ∷ y) → (w ≡ u) × (b ≡ e) × (x ≡ y)
  one_word [] [] x y h k r = (refl, (cc), (cc))
  one_word [] (d ∷ u) x y h k r = let s : b ≡ d = cc in clash (both (stays d) (is_clear u) k).0 (ap stays (sym s) ∙ p)
  one_word (d ∷ w) [] x y h k r = let s : d ≡ e = cc in clash (both (stays d) (is_clear w) h).0 (ap stays s ∙ q)
  one_word (d ∷ w) (f ∷ u) x y h k r =
      let s : d ≡ f = cc in
      let t : w ++ (b ∷ x) ≡ u ++ (e ∷ y) = cc in
      let i = one_word w u x y (both (stays d) (is_clear w) h).1 (both (stays f) (is_clear u) k).1 t in
      (ap (d ∷◌) i.0 ∙ ap (◌∷ u) s, i.1, i.2)

-- a word alone is no word with a byte after it
pub no_more : (e : ℕ) → stays e ≡ false → (w u y : List ℕ) → is_clear w ≡ true → w ≡ u ++ (e ∷ y) → ⊥
no_more e q w u y h r =
    clash (both (stays e) (is_clear y) (both (is_clear u) (is_clear (e ∷ y)) (sym (all_append stays u (e ∷ y)) ∙ ap is_clear (sym r) ∙ h)).1).0 q

-- ---- lines of names

-- the names that are read, each with a space after it, and then t
abbrev pub line : List ℕ → List ℕ → List ℕ
line [] t = t
line (v ∷ l) t = name_word (variable v) ++ (32 ∷ line l t)

pub line-next : (l : List ℕ) (v : ℕ) (t : List ℕ) → line (l ++ (v ∷ [])) t ≡ line l (name_word (variable v) ++ (32 ∷ t))
line-next [] v t = refl
line-next (u ∷ l) v t = ap (λ (x : List ℕ). name_word (variable u) ++ (32 ∷ x)) (line-next l v t)

abbrev pub named : List ℕ → Name → Named
named l a = record { reads = l; name = a }

-- the line as its words, one space apart
pub line_of : (l : List ℕ) (a : Name) (r : List ℕ) → spaced (words_of (named l a)) ++ (10 ∷ r) ≡ line l (name_word a ++ (10 ∷ r))
unfolding spaced name_word
line_of [] a r = ap (◌++ (10 ∷ r)) (append-nil (name_word a))
line_of (v ∷ []) a r =
    append_assoc (name_text 120 v) (32 ∷ spaced (words_of (named [] a))) (10 ∷ r) ∙ ap (λ (x : List ℕ). name_text 120 v ++ (32 ∷ x)) (line_of [] a r)
line_of (v ∷ u ∷ l) a r =
    append_assoc (name_text 120 v) (32 ∷ spaced (words_of (named (u ∷ l) a))) (10 ∷ r) ∙ ap (λ (x : List ℕ). name_text 120 v ++ (32 ∷ x)) (line_of (u ∷ l) a r)

-- what is left of a line after names of it
pub passed : (l t m : List ℕ) (a : Name) (r : List ℕ) → line l t ≡ line m (name_word a ++ (10 ∷ r))
    → (k : List ℕ) × (m ≡ l ++ k) × (t ≡ line k (name_word a ++ (10 ∷ r)))
passed [] t m a r e = (m, refl, e)
passed (v ∷ l) t [] a r e =
    let z : ◌≡◌ {A = ℕ} 32 10 = (one_word 32 10 refl refl (name_word (variable v)) (name_word a) (line l t) r (name-clear (variable v)) (name-clear a) e).1 in
    absurd (omega arith)
passed (v ∷ l) t (u ∷ m) a r e =
    let y = line m (name_word a ++ (10 ∷ r)) in
    let z = one_word 32 32 refl refl (name_word (variable v)) (name_word (variable u)) (line l t) y (name-clear (variable v)) (name-clear (variable u)) e in
    let s : variable v ≡ variable u = name-one (variable v) (variable u) z.0 in
    let w : u ≡ v = cc in
    let k = passed l t m a r z.2 in
    (k.0, ap (◌∷ m) w ∙ ap (v ∷◌) k.1, k.2)

-- a text has one line of names
pub names-one : (d e : Named) (t u : List ℕ) → spaced (words_of d) ++ (10 ∷ t) ≡ spaced (words_of e) ++ (10 ∷ u) → (d ≡ e) × (t ≡ u)
names-one d e t u h =
    let k = passed d.reads (name_word d.name ++ (10 ∷ t)) e.reads e.name u
    (sym (line_of d.reads d.name t) ∙ h ∙ line_of e.reads e.name u) in
    go k.0 k.1 k.2
  where
    go : (k : List ℕ) → e.reads ≡ d.reads ++ k → name_word d.name ++ (10 ∷ t) ≡ line k (name_word e.name ++ (10 ∷ u)) → (d ≡ e) × (t ≡ u)
    go [] p q =
        let z = one_word 10 10 refl refl (name_word d.name) (name_word e.name) t u (name-clear d.name) (name-clear e.name) q in
        (ap₂ named (sym (p ∙ append-nil d.reads)) (name-one d.name e.name z.0), z.2)
    go (v ∷ k) p q =
        let z : ◌≡◌ {A = ℕ} 10 32 = (one_word 10 32 refl refl (name_word d.name) (name_word (variable v)) t _ (name-clear d.name)
        (name-clear (variable v)) q).1 in
        absurd (omega arith)

-- ---- the front of a line

-- a line begins with the name that is defined, or with one that is read
pub data Front (least : ℕ) (t : List ℕ) : Type 0 where
  last : (a : Name) (r : List ℕ) → Follows least a → Small a → t ≡ name_word a ++ (10 ∷ r) → Front least t
  more : (v : ℕ) (r : List ℕ) → least ≤ v → v < largest → t ≡ name_word (variable v) ++ (32 ∷ r) → Front least t

front_by : (least : ℕ) (t l : List ℕ) (a : Name) (r : List ℕ) → LineFrom least t (named l a) r → Front least t
front_by least t [] a r f = last a r (λ v e. let m : v ∈ variable_in a = rw e (here refl) in (f.from v m, f.ascends.small v m)) f.ascends.last
    (f.text ∙ line_of [] a r)
front_by least t (v ∷ l) a r f = more v (line l (name_word a ++ (10 ∷ r))) (f.from v (here refl)) (f.ascends.small v (here refl))
    (f.text ∙ line_of (v ∷ l) a r)

pub front_of : (least : ℕ) (t : List ℕ) (d : Named) (r : List ℕ) → LineFrom least t d r → Front least t
front_of least t d r f = front_by least t d.reads d.name r f

next-true : (least v : ℕ) → least ≤ v → v < largest → is_next least v ≡ true
next-true least v h k = together (leb least v) (ltb v largest) (le-leb least v h) (lt-ltb v largest k)

-- a name that a space ends is the first that is read
front-space : (least : ℕ) (t : List ℕ) (a : Name) (x : List ℕ) → t ≡ name_word a ++ (32 ∷ x) → Front least t
    → (v : ℕ) × (a ≡ variable v) × (is_next least v ≡ true)
front-space least t a x e (last b r h k f) =
    let z : ◌≡◌ {A = ℕ} 32 10 = (one_word 32 10 refl refl (name_word a) (name_word b) x r (name-clear a) (name-clear b) (sym e ∙ f)).1 in
    absurd (omega arith)
front-space least t a x e (more v r h k f) =
    let z = one_word 32 32 refl refl (name_word a) (name_word (variable v)) x r (name-clear a) (name-clear (variable v)) (sym e ∙ f) in
    (v, name-one a (variable v) z.0, next-true least v h k)

-- and one that an LF ends is the one that is defined
front-line : (least : ℕ) (t : List ℕ) (a : Name) (x : List ℕ) → t ≡ name_word a ++ (10 ∷ x) → Front least t
    → (v : ℕ) → a ≡ variable v → is_next least v ≡ true
front-line least t a x e (last b r h k f) v i =
    let z = one_word 10 10 refl refl (name_word a) (name_word b) x r (name-clear a) (name-clear b) (sym e ∙ f) in
    let j = h v (sym (name-one a b z.0) ∙ i) in
    next-true least v j.0 j.1
front-line least t a x e (more u r h k f) v i =
    let z : ◌≡◌ {A = ℕ} 10 32 =
    (one_word 10 32 refl refl (name_word a) (name_word (variable u)) x r (name-clear a) (name-clear (variable u)) (sym e ∙ f)).1 in
    absurd (omega arith)

-- one that ends the text is neither
front-end : (least : ℕ) (t : List ℕ) (a : Name) → t ≡ name_word a → Front least t → ⊥
front-end least t a e (last b r h k f) = no_more 10 refl (name_word a) (name_word b) r (name-clear a) (sym e ∙ f)
front-end least t a e (more v r h k f) = no_more 32 refl (name_word a) (name_word (variable v)) r (name-clear a) (sym e ∙ f)

front-none : (least : ℕ) (t : List ℕ) → ((b : Name) → Small b → Starts t (name_word b) → ⊥) → Front least t → ⊥
front-none least t g (last a r h k f) = g a k (by_line r f)
front-none least t g (more v r h k f) = g (variable v) (omega arith) (by_space r f)

-- ---- the next name

module _ (s : List ℕ) (at least : ℕ) where
  next-from : (v : ℕ) → is_next least v ≡ true → Follows least (variable v)
  next-from v h u e =
      let w : v ≡ u = cc in
      let x = both (leb least v) (ltb v largest) h in
      (omega (arith, leb-true least v x.0), omega (arith, ltb-true v largest x.1))

  -- a name, and what ends it
  pub turn_is : (a : Label) (e : Ended) → CalledIs s at (Some (a, e)) → TurnIs s at least (turn_of least a e)
  turn_is (Label.Variable v) (Ended.Space p) (e, f) = elim (decided (is_next least v)) [
    | inl t ↦ rw t (record { text = e; forth = f; follows = next-from v t })
    | inr t ↦ rw t (λ d r l.
        let x = front-space least (left s at) (variable v) (left s p) e (front_of least (left s at) d r l) in
        let w : x.0 ≡ v = cc in
        clash (ap (is_next least) (sym w) ∙ x.2) t)
  ]
  turn_is (Label.Variable v) (Ended.Line p) (e, f) = elim (decided (is_next least v)) [
    | inl t ↦ rw t (record { text = e; forth = f; follows = next-from v t })
    | inr t ↦ rw t (λ d r l. clash (front-line least (left s at) (variable v) (left s p) e (front_of least (left s at) d r l) v refl) t)
  ]
  turn_is (Label.Output j) (Ended.Space p) (e, f) = λ d r l.
      let x = front-space least (left s at) (output j) (left s p) e (front_of least (left s at) d r l) in
      let z : ◌≡◌ {A = ℕ} 0 1 = cc in
      omega arith
  turn_is (Label.Output j) (Ended.Line p) (e, f) =
      record { text = e; forth = f; follows = λ v i. let z : ◌≡◌ {A = ℕ} 0 1 = cc in absurd (omega arith) }
  turn_is (Label.Variable v) Ended.Finish h = λ d r l. front-end least (left s at) (variable v) h (front_of least (left s at) d r l)
  turn_is (Label.Output j) Ended.Finish h = λ d r l. front-end least (left s at) (output j) h (front_of least (left s at) d r l)

  -- no name
  pub turn-none : CalledIs s at None → TurnIs s at least None
  turn-none h = λ d r l. front-none least (left s at) h (front_of least (left s at) d r l)

-- ---- names one after the other

pub top-append : (l m : List ℕ) → top_of (l ++ m) ≡ max (top_of l) (top_of m)
top-append [] m = omega arith
top-append (v ∷ l) m = omega (arith, top-append l m)

pub top_below : {v : ℕ} {l : List ℕ} → v ∈ l → v < top_of l
top_below (here e) = omega (arith, e)
top_below (there m) = omega (arith, top_below m)

top_least : (l : List ℕ) (v : ℕ) → ((x : ℕ) → x ∈ l → x < v) → top_of l ≤ v
top_least [] v f = omega arith
top_least (u ∷ l) v f = omega (arith, f u (here refl), top_least l v (λ x m. f x (there m)))

asc-next : (l : List ℕ) (v : ℕ) → asc l ≡ true → top_of l ≤ v → asc (l ++ (v ∷ [])) ≡ true
asc-next l v h k = pairwise_append ltb l (v ∷ []) h refl (λ x y m n. lt-ltb x y (omega (arith, top_below m, Memᴰ.eq_of_singleton n)))

-- of ascending numbers the first ascend, and so do those after them, which are above them
pub asc-parts : (l m : List ℕ) → asc (l ++ m) ≡ true → (asc l ≡ true) × (asc m ≡ true) × ((x y : ℕ) → x ∈ l → y ∈ m → x < y)
asc-parts [] m h = (refl, h, λ x y i j. absurd (Memᴰ.not-nil i))
asc-parts (v ∷ l) m h =
    let a = ahead ltb v (l ++ m) h in
    let r = asc-parts l m a.1 in (
      together (all (ltb v) l) (asc l) (both (all (ltb v) l) (all (ltb v) m) (sym (all_append (ltb v) l m) ∙ a.0)).0 r.0,
      r.1,
      λ x y i j. elim (Memᴰ.cases_cons i) [
        | inl e ↦ omega (arith, e, ltb-true v y (all-out (ltb v) (Memᴰ.append_right l j) a.0))
        | inr t ↦ r.2 x y t j
      ],
    )

-- the names that are passed on the way from one place to another
pub record Passing (s : List ℕ) (at p least reads base : ℕ) (old new : List ℕ) : Type 0 where
  pub got : List ℕ
  pub order : asc got ≡ true
  pub small : (v : ℕ) → v ∈ got → v < largest
  pub top : least ≡ top_of got
  pub count : reads ≡ length got
  pub text : left s at ≡ line got (left s p)
  pub room : at + reads ≤ p
  pub marks : Raised base got old new

pub passing-none : (s : List ℕ) (at base : ℕ) (o : List ℕ) → Passing s at at 0 0 base o o
passing-none s at base o = record {
  got = [];
  order = refl;
  small = λ v m. absurd (Memᴰ.not-nil m);
  top = refl;
  count = refl;
  text = refl;
  room = omega arith;
  marks = raised-none base o;
}

module _ {s : List ℕ} {at p least reads base : ℕ} {o m : List ℕ} (x : Passing s at p least reads base o m) where
  pub passing-next : (v q : ℕ) {n : List ℕ} → Comes s p least (variable v) 32 q → Raised base (v ∷ []) m n
      → Passing s at q (v + 1) (reads + 1) base o n
  passing-next v q y z =
      let f = y.follows v refl in
      record {
        got = x.got ++ (v ∷ []);
        order = asc-next x.got v x.order (omega (arith, x.top, f));
        small = λ u i. elim (Memᴰ.append_cases x.got i) [ inl j ↦ x.small u j | inr j ↦ omega (arith, f, Memᴰ.eq_of_singleton j) ];
        top = omega (arith, top-append x.got (v ∷ []), x.top, f);
        count = omega (arith, length-append x.got (v ∷ []), x.count);
        text = x.text ∙ ap (line x.got) y.text ∙ sym (line-next x.got v (left s q));
        room = omega (arith, x.room, y.forth.on);
        marks = raised-on x.marks z;
      }

  -- the name that is defined ends the line
  ascends-last : (a : Name) → Follows least a → Small a → Ascends (named x.got a)
  ascends-last (variable v) f k = record {
    order = asc-next x.got v x.order (omega (arith, x.top, f v refl));
    small = λ u i. elim (Memᴰ.append_cases x.got i) [ inl j ↦ x.small u j | inr j ↦ omega (arith, f v refl, Memᴰ.eq_of_singleton j) ];
    last = k;
  }
  ascends-last (output j) f k = record {
    order = ap asc (append-nil x.got) ∙ x.order;
    small = λ u i. elim (Memᴰ.append_cases x.got i) [ inl j ↦ x.small u j | inr j ↦ absurd (Memᴰ.not-nil j) ];
    last = k;
  }

  top-last : (a : Name) → Follows least a → top_after least a ≡ top_of (x.got ++ variable_in a)
  top-last (variable v) f = omega (arith, top-append x.got (v ∷ []), x.top, f v refl)
  top-last (output j) f = rw append-nil x.top

  pub passing-last : (a : Label) (top q : ℕ) {n : List ℕ} → Comes s p least (label_of a) 10 q → LastMarked base least (label_of a) m n top
      → NamesGot s at base o n (record { name = a; reads = reads; top = top; next = q })
  passing-last a top q y z = record {
    named = named x.got (label_of a);
    ascends = ascends-last (label_of a) y.follows z.small;
    text = x.text ∙ ap (line x.got) y.text ∙ sym (line_of x.got (label_of a) (left s q));
    forth = record { on = omega (arith, x.room, y.forth.on); within = y.forth.within };
    name = refl;
    reads = x.count;
    top = z.top ∙ top-last (label_of a) y.follows;
    marks = raised-on x.marks z.marks;
  }

  -- and where none comes, there was no line
  pub passing-no : TurnIs s p least None → NamesNot s at o m
  passing-no f = record {
    size = x.marks.size;
    none = λ d r a e.
        let k = passed x.got (left s p) d.reads d.name r (sym x.text ∙ e ∙ line_of d.reads d.name r) in
        let n : numbers_in d ≡ x.got ++ (k.0 ++ variable_in d.name) =
        ap (◌++ variable_in d.name) k.1 ∙ append_assoc x.got k.0 (variable_in d.name) in
        let b = asc-parts x.got (k.0 ++ variable_in d.name) (ap asc (sym n) ∙ a.order) in
        f (named k.0 d.name) r (record {
          ascends = record {
            order = b.1;
            small = λ v i. a.small v (rw n (Memᴰ.append_right x.got i));
            last = a.last;
          };
          from = λ v i. omega (arith, x.top, top_least x.got v (λ u j. b.2 u v j i));
          text = k.2 ∙ sym (line_of k.0 d.name r);
        });
  }
