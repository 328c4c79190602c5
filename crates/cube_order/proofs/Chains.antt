-- What a chain over the literals of a cube answers. Assumes nothing.
use Rattle.std.proofs.Common.{◌≡◌, ap, ℕ, Bool, List}
use Rattle.std.specs.Fn.{Called}
use Rattle.std.specs.Iterator.{YieldsFirstBy, ChecksAll, ChecksAny, FoldsItems}
use Rattle.std.specs.List.{fold}
use Rattle.std.proofs.lemmas.Iterator.{YieldsList}
use Rattle.std.proofs.lemmas.Iterator.Consumers.{YieldsList-from_first, fold_from_yields_List}
use denote.Param.Members.{Mut}
use Rattle.sets.specs.Lists.{all, any}
use Rattle.sets.proofs.Chains.{all-chain, any-chain}
use Rattle.cube.specs.Cube.{lits}
use Rattle.cube.specs.declared.{Cube.Cube, Literal.Literal}
use Rattle.cube_order.specs.declared.Literals.{Literals}

-- what a literal's number is, and the literals that are left
abbrev pub number : Literal → ℕ
number l = l.0

abbrev pub left : Literals → List ℕ
left s = lits s.rest

-- each comes, ascending
pub each-list : {d : Cube} {s : Literals} → s.rest ≡ d → YieldsList (YieldsFirstBy number left) number s (lits d)
each-list e = YieldsList-from_first number left _ (ap lits e)

module _ {F : Type 0} {g : Mut F (Literal × Unit {0}) Bool} {s : Literals} {d : Cube} (test : ℕ → Bool) (u : Literals) (f : F) (r : Bool) where
  -- whether all literals pass a test that the closure computes
  pub all-each : ChecksAll (YieldsFirstBy number left) g s f r u → s.rest ≡ d → ((l : Literal) (b : Bool) (q : F) → Called g f (l, tt) b q → (q ≡ f) × (b ≡ test l.0)) → r ≡ all test (lits d)
  all-each h e k = all-chain test u f r h (each-list e) k

  -- whether one does
  pub any-each : ChecksAny (YieldsFirstBy number left) g s f r u → s.rest ≡ d → ((l : Literal) (b : Bool) (q : F) → Called g f (l, tt) b q → (q ≡ f) × (b ≡ test l.0)) → r ≡ any test (lits d)
  any-each h e k = any-chain test u f r h (each-list e) k

-- what a fold comes to, whose step the closure computes
pub fold-each : {C F : Type 0} {g : Mut F (C × (Literal × Unit {0})) C} {s : Literals} {d : Cube} (h : C → ℕ → C) (f : F) (init r : C)
    → FoldsItems (YieldsFirstBy number left) g s f init r → s.rest ≡ d → ((a : C) (l : Literal) (b : C) (q : F) → Called g f (a, (l, tt)) b q → (q ≡ f) × (b ≡ h a l.0)) → r ≡ fold h init (lits d)
fold-each {g = g} h f init r k e w = fold_from_yields_List g h init r k (each-list e) w
