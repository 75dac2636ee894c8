-- Each law that is broken first is the cause that is told.
use Rattle.std.proofs.Common.{◌≡◌, ℕ, ◌+◌, take, refl, ◌∙◌}
use Rattle.std.specs.Prelude.{slice_get, Some}
use Rattle.std.specs.List.{AllByRecursion}
use Rattle.std.proofs.lemmas.List.Elements.{All-from_recursion}
use Rattle.pyr_bundle.specs.declared.raw_bundle.RawBundle.{RawBundle}
use Rattle.pyr_bundle.specs.declared.bundle_fault.BundleFault.{BundleFault}
use Rattle.pyr_bundle.specs.declared.bundle_fault.BundleFault.TheVariants.{Law as LawFault, Memory}
use Rattle.pyr_bundle.specs.Law.{Law, IsKept}
use Rattle.pyr_bundle.specs.Laws.{names, accesses, writers, codes, prints, operands, executions, sends, receives, channels, capacities, laws}
use Rattle.pyr_bundle.specs.Faults.{IsBroken, IsCause}

cause : (raw : RawBundle) (i n : ℕ) (law : Law) (e : BundleFault) → n ≡ i + 1 → slice_get (laws raw) i ≡ Some law → AllByRecursion IsKept (take i (laws raw)) → IsBroken n law e → IsCause raw e
cause raw i n law (LawFault number a b) m is h broken = record {
  index = i;
  law = law;
  numbered = broken.0 ∙ m;
  is_law = is;
  smaller = All-from_recursion IsKept (take i (laws raw)) h;
  first = broken.1;
}
cause raw i n law Memory m is h broken = tt

module _ (raw : RawBundle) (e : BundleFault) where
  pub cause_1 : IsBroken 1 (names raw) e → IsCause raw e
  unfolding laws
  cause_1 = cause raw 0 1 (names raw) e refl refl tt

  pub cause_2 : IsKept (names raw) → IsBroken 2 (accesses raw) e → IsCause raw e
  unfolding laws
  cause_2 a = cause raw 1 2 (accesses raw) e refl refl (a, tt)

  pub cause_3 : IsKept (names raw) → IsKept (accesses raw) → IsBroken 3 (writers raw) e → IsCause raw e
  unfolding laws
  cause_3 a b = cause raw 2 3 (writers raw) e refl refl (a, (b, tt))

  pub cause_4 : IsKept (names raw) → IsKept (accesses raw) → IsKept (writers raw) → IsBroken 4 (codes raw) e → IsCause raw e
  unfolding laws
  cause_4 a b c = cause raw 3 4 (codes raw) e refl refl (a, (b, (c, tt)))

  pub cause_5 : IsKept (names raw) → IsKept (accesses raw) → IsKept (writers raw) → IsKept (codes raw) → IsBroken 5 (prints raw) e → IsCause raw e
  unfolding laws
  cause_5 a b c d = cause raw 4 5 (prints raw) e refl refl (a, (b, (c, (d, tt))))

  pub cause_6 : IsKept (names raw) → IsKept (accesses raw) → IsKept (writers raw) → IsKept (codes raw) → IsKept (prints raw) → IsBroken 6 (operands raw) e → IsCause raw e
  unfolding laws
  cause_6 a b c d f = cause raw 5 6 (operands raw) e refl refl (a, (b, (c, (d, (f, tt)))))

  pub cause_7 : IsKept (names raw) → IsKept (accesses raw) → IsKept (writers raw) → IsKept (codes raw) → IsKept (prints raw) → IsKept (operands raw) → IsBroken 7 (executions raw) e → IsCause raw e
  unfolding laws
  cause_7 a b c d f g =
      cause raw 6 7 (executions raw) e refl refl (a, (b, (c, (d, (f, (g, tt))))))

  pub cause_8 : IsKept (names raw) → IsKept (accesses raw) → IsKept (writers raw) → IsKept (codes raw) → IsKept (prints raw) → IsKept (operands raw) → IsKept (executions raw) → IsBroken 8 (sends raw) e → IsCause raw e
  unfolding laws
  cause_8 a b c d f g h =
      cause raw 7 8 (sends raw) e refl refl (a, (b, (c, (d, (f, (g, (h, tt)))))))

  pub cause_9 : IsKept (names raw) → IsKept (accesses raw) → IsKept (writers raw) → IsKept (codes raw) → IsKept (prints raw) → IsKept (operands raw) → IsKept (executions raw) → IsKept (sends raw) → IsBroken 9 (receives raw) e → IsCause raw e
  unfolding laws
  cause_9 a b c d f g h i =
      cause raw 8 9 (receives raw) e refl refl (a, (b, (c, (d, (f, (g, (h, (i, tt))))))))

  pub cause_10 : IsKept (names raw) → IsKept (accesses raw) → IsKept (writers raw) → IsKept (codes raw) → IsKept (prints raw) → IsKept (operands raw) → IsKept (executions raw) → IsKept (sends raw) → IsKept (receives raw) → IsBroken 10 (channels raw) e → IsCause raw e
  unfolding laws
  cause_10 a b c d f g h i j =
      cause raw 9 10 (channels raw) e refl refl (a, (b, (c, (d, (f, (g, (h, (i, (j, tt)))))))))

  pub cause_11 : IsKept (names raw) → IsKept (accesses raw) → IsKept (writers raw) → IsKept (codes raw) → IsKept (prints raw) → IsKept (operands raw) → IsKept (executions raw) → IsKept (sends raw) → IsKept (receives raw) → IsKept (channels raw) → IsBroken 11 (capacities raw) e → IsCause raw e
  unfolding laws
  cause_11 a b c d f g h i j k =
      cause raw 10 11 (capacities raw) e refl refl (a, (b, (c, (d, (f, (g, (h, (i, (j, (k, tt))))))))))
