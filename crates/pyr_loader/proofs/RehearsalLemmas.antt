-- What a longest run of the tag machine tells of the bundle.
use Rattle.std.proofs.Common.{◌≡◌, ℕ, Bool, true, false, List, IsTrue, ◌↔◌, sym, ◌∙◌, subst}
use Rattle.pyr_num.specs.declared.ids.DatumId.{DatumId}
use Rattle.pyr_net.specs.Net.{Rules, World}
use Rattle.pyr_net.specs.Run.{IsEnded, IsOutcome}
use Rattle.pyr_bundle.specs.Parts.{Parts, IsBundle}
use Rattle.pyr_bundle.proofs.WellFormedLemmas.{well_formed}
use Rattle.pyr_machine.specs.Machine.{LocalState, tags, tag_rules, start}
use Rattle.pyr_machine.specs.Good.{IsDone, IsGood}
use Rattle.pyr_machine.proofs.Ends.{ended_is}
use Rattle.pyr_loader.specs.declared.stop.Stop.{Stop}
use Rattle.pyr_loader.specs.declared.leftover.Unreceived.{Unreceived}
use Rattle.pyr_loader.specs.Stops.{stops_of}
use Rattle.pyr_loader.specs.Leftover.{IsFirstLeft}
use Rattle.pyr_loader.specs.Unreceived.{IsFirst, HasNone}
use Rattle.pyr_loader.specs.Answer.{IsStuck, HasLeftover}
use Rattle.pyr_loader.proofs.Conserved.{IsConserved, conserved}
use Rattle.pyr_loader.proofs.LeftLemmas.{first_left, none_left}

module _ (b : Parts) (net : Rules (LocalState DatumId) DatumId) (same : net ≡ tag_rules b) (n : ℕ) (z : World (LocalState DatumId) DatumId) (o : IsOutcome (tag_rules b) start n z) (r : Bool) (iff : IsTrue r ↔ IsEnded net z) where
  ended_by : r ≡ true → IsEnded (tag_rules b) z
  ended_by e = subst (λ m. IsEnded m z) same (iff.0 e)

  -- the end isn't an ended state
  pub stuck : (stops : List Stop) → r ≡ false → stops ≡ stops_of b z → IsStuck b stops
  stuck stops e f = record {
    never = λ run is over.
        let z_is = ended_is (tag_rules b) start z n o run is over in
        let t : r ≡ true = iff.1 (subst (λ m. IsEnded m z) (sym same) (subst (IsEnded (tag_rules b)) z_is over)) in
        let g : false ≡ true = sym e ∙ t in
        absurd (cc);
    count = n;
    state = z;
    outcome = o;
    stops_are = f;
  }

  -- it is one, and a parcel is left
  pub left : IsBundle b → r ≡ true → (s : Unreceived) → IsFirst b s → HasLeftover b s.from s.to s.datum
  left is e s h = record {
    run = o.reached.run;
    is_run = o.reached.is_run;
    ended = subst (IsEnded (tag_rules b)) (sym o.reached.ends) (ended_by e);
    first = subst (λ v. IsFirstLeft b v s.from s.to s.datum) (sym o.reached.ends)
        (first_left b is (well_formed b is) z (subst (IsConserved b) o.reached.ends (conserved b o.reached.run (well_formed b is) o.reached.is_run)) (ended_by e) s h);
  }

  -- it is one, and no parcel is left
  pub good : IsBundle b → r ≡ true → HasNone b → IsGood b n
  good is e none = record {
    run = o.reached.run;
    is_run = o.reached.is_run;
    count = o.reached.steps;
    done = subst (IsDone (tags b) b) (sym o.reached.ends)
        (none_left b is (well_formed b is) z (subst (IsConserved b) o.reached.ends (conserved b o.reached.run (well_formed b is) o.reached.is_run)) (ended_by e) none);
  }
