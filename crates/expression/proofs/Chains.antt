-- What a chain over the cubes of words answers. Assumes nothing.
use Rattle.std.proofs.Common.{◌≡◌, refl, ap, ℕ, Bool, Option, List}
use Rattle.std.specs.Fn.{Called}
use Rattle.std.specs.Iterator.{YieldsFirstBy, ChecksAll, ChecksAny, FoldsItems}
use Rattle.std.proofs.lemmas.Iterator.{YieldsList}
use Rattle.std.specs.List.{fold}
use Rattle.std.proofs.lemmas.Iterator.Consumers.{YieldsList-from_first, fold_from_yields_List}
use denote.Param.Members.{Mut}
use Rattle.sets.specs.Lists.{all, any}
use Rattle.sets.proofs.Chains.{all-chain, any-chain}
use Rattle.cube.specs.Cube.{lits}
use Rattle.cube.specs.declared.Cube.{Cube}
use Rattle.expression.specs.declared.Cubes.{Cubes}
use Rattle.expression.specs.Words.{cubes_of}

abbrev pub left : Cubes → List (List ℕ)
left s = cubes_of s.words.now

-- each comes, as they stand
pub each-list : {ws : List ℕ} {s : Cubes} → s.words.now ≡ ws → YieldsList (YieldsFirstBy lits left) lits s (cubes_of ws)
each-list e = YieldsList-from_first lits left _ (ap cubes_of e)

module _ {F : Type 0} {g : Mut F (Cube × Unit {0}) Bool} {s : Cubes} {ws : List ℕ} (test : List ℕ → Bool) (u : Cubes) (f : F) (r : Bool) where
  -- whether all cubes pass a test that the closure computes
  pub all-each : ChecksAll (YieldsFirstBy lits left) g s f r u → s.words.now ≡ ws → ((c : Cube) (b : Bool) (q : F) → Called g f (c, tt) b q → (q ≡ f) × (b ≡ test (lits c))) → r ≡ all test (cubes_of ws)
  all-each d e k = all-chain test u f r d (each-list e) k

  -- whether one does
  pub any-each : ChecksAny (YieldsFirstBy lits left) g s f r u → s.words.now ≡ ws → ((c : Cube) (b : Bool) (q : F) → Called g f (c, tt) b q → (q ≡ f) × (b ≡ test (lits c))) → r ≡ any test (cubes_of ws)
  any-each d e k = any-chain test u f r d (each-list e) k

-- what a fold comes to, whose step the closure computes
pub fold-each : {C F : Type 0} {g : Mut F (C × (Cube × Unit {0})) C} {s : Cubes} {ws : List ℕ} (h : C → List ℕ → C) (f : F) (init r : C)
    → FoldsItems (YieldsFirstBy lits left) g s f init r → s.words.now ≡ ws → ((a : C) (c : Cube) (b : C) (q : F) → Called g f (a, (c, tt)) b q → (q ≡ f) × (b ≡ h a (lits c))) → r ≡ fold h init (cubes_of ws)
fold-each {g = g} h f init r d e k = fold_from_yields_List g h init r d (each-list e) k
