use Rattle.std.proofs.Common.{◌≡◌, ℕ, ◌+◌, ◌<◌, Bool, true, false, cond, Option, Some, None, List, [], ◌∷◌, length, get_or, take, drop, sym, ap, ◌∙◌}
use Rattle.std.specs.Prelude.{find}
use Rattle.std.specs.Option.{option_or}
use Rattle.std.proofs.lemmas.List.{take_all, take_more, drop_more, take-append-drop}
use Rattle.std.proofs.lemmas.List.Folds.{find-append}
use Rattle.pyr_num.specs.declared.limits.Quantity.TheVariants.{Input}
use Rattle.pyr_graph.specs.System.{system_of}
use Rattle.pyr_graph.specs.Bounds.{passes, rows}
use Rattle.pyr_graph.proofs.limits.passed_limit.Goals as goal

-- the first element that passes, behind those that don't
find_here : {X : Type 0} (p : X → Bool) (xs : List X) (i : ℕ) (d : X) → i < length xs → find p (take i xs) ≡ None → p (get_or xs i d) ≡ true → Some (get_or xs i d) ≡ find p xs
find_here p xs i d inside none passes =
    ap (λ (b : Bool). cond b (Some (get_or xs i d)) (find p (drop (i + 1) xs))) (sym passes)
    ∙ (ap (find p) (sym (drop_more xs i d inside)) ∙ (ap (λ (o : Option _). option_or o (find p (drop i xs))) (sym none)
    ∙ (sym (find-append p (take i xs) (drop i xs)) ∙ ap (find p) (take-append-drop i xs))))

-- one more doesn't
find_more : {X : Type 0} (p : X → Bool) (xs : List X) (i : ℕ) (d : X) → i < length xs → find p (take i xs) ≡ None → p (get_or xs i d) ≡ false → find p (take (i + 1) xs) ≡ None
find_more p xs i d inside none fails =
    ap (find p) (take_more xs i d inside) ∙ (find-append p (take i xs) (get_or xs i d ∷ []) ∙ rw (none, fails))

pub returns-then-passes_limit : goal.returns-then-passes_limit
returns-then-passes_limit c =
    find_here (passes (system_of c.args.tasks.now c.args.datums.now c.args.prints.now)) rows c.loop-which.which-index Input c.loop-which-test.true c.loop-which.invariant.1
    (sym c.passes_limit.ensures ∙ c.if-passes_limit.true)

pub loop-which-preserved : goal.loop-which-preserved
loop-which-preserved c = (
  c.loop-which.invariant.0,
  find_more (passes (system_of c.args.tasks.now c.args.datums.now c.args.prints.now)) rows c.loop-which.which-index Input c.loop-which-test.true c.loop-which.invariant.1
      (sym c.passes_limit.ensures ∙ c.if-passes_limit.false),
)

pub returns : goal.returns
returns c =
    sym (ap (find (passes (system_of c.args.tasks.now c.args.datums.now c.args.prints.now))) (sym (take_all c.loop-which.which-index rows c.loop-which-test.false)) ∙ c.loop-which.invariant.1)
