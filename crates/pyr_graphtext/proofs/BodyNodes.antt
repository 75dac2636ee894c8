-- Lines of a body that are taken are within the limit on the nodes of all bodies together.
use Rattle.std.proofs.Common.{◌≡◌, ℕ, ◌+◌, ◌≤◌, ◌<◌, Bool, true, false, cond, List, [], ◌∷◌, drop, Result, Ok, Err, refl, sym, ap, subst, ◌∙◌, inl, inr, arith}
use Rattle.std.specs.Prelude.{◌⊎◌, ◌≢◌, nat_lt, ◌==◌}
use Rattle.std.proofs.lemmas.Bool.{cases_lt, ltb-false}
use Rattle.pyr_num.specs.declared.limits.Quantity.TheVariants as quantities
use Rattle.pyr_num.specs.declared.limits.TheConstants.Limits.{DEPTH, NODES, ALL_NODES}
use Rattle.pyr_num.specs.declared.name.Name.{Name}
use Rattle.pyr_lex.specs.declared.token.Token.{Token}
use Rattle.pyr_lex.specs.Depth.{depth_of}
use Rattle.pyr_body.specs.declared.line_fault.LineFault.{LineFault as BodyFault}
use Rattle.pyr_body.specs.declared.line_fault.LineFault.TheVariants as body_faults
use Rattle.pyr_body.specs.Tree.{Expr}
use Rattle.pyr_body.specs.Lines.{Line, SetLine, PutLine, ForLine, DoneLine, line_nodes, lines_nodes, loops_open}
use Rattle.pyr_body.specs.Size.{expr_nodes}
use Rattle.pyr_body.specs.Written.{WrittenExpr, WrittenLine, Set, Put, For, Done, written_nodes}
use Rattle.pyr_body.specs.Spelling.{line_tokens}
use Rattle.pyr_body.specs.Names.{◌>>=◌, known, index_of, resolved}
use Rattle.pyr_body.specs.Taking.{LinesTaken, no_lines, limit, refuse, nodes_fit, loop_fits, local_fits, with_line, with_numbered, after_set, after_put, after_for, after_done, after_line}
use Rattle.pyr_body.specs.Reader.{IsOutcome as IsBodyOutcome, GoesOn}
use Rattle.pyr_body.proofs.Binding.{bind_ok, same_ok}
use Rattle.pyr_body.proofs.LinesLemmas.{lines_nodes-append}
use Rattle.pyr_body.proofs.LineLemmas.{line_is_decided}
use Rattle.pyr_body.proofs.NameLemmas.{resolved_is}
use Rattle.pyr_graphtext.specs.declared.open_part.OpenPart.{OpenPart}
use Rattle.pyr_graphtext.specs.declared.open_part.OpenPart.TheVariants.{AfterTask, AfterReads, InBody}
use Rattle.pyr_graphtext.specs.State.{reader_of, FitsBody, FitsPart}

abbrev ok_taken : LinesTaken → Result LinesTaken BodyFault
ok_taken t = Ok t

abbrev err_unit : BodyFault → Result (Unit {0}) BodyFault
err_unit f = Err f

abbrev err_taken : BodyFault → Result LinesTaken BodyFault
err_taken f = Err f

-- a line of so many nodes more
record IsFitted (taken next : LinesTaken) : Type 0 where
  before : next.nodes_before ≡ taken.nodes_before
  few : taken.nodes_before + lines_nodes next.lines ≤ ALL_NODES

room : (before nodes added : ℕ) (u : Unit {0}) → nodes_fit before nodes added ≡ Ok u → before + nodes + added ≤ ALL_NODES
room before nodes added u h = by_nodes (nat_lt NODES (nodes + added)) h where
  by_all : (b : Bool) → nat_lt ALL_NODES (before + nodes + added) ≡ b → refuse b (limit quantities.AllNodes) ≡ Ok u → before + nodes + added ≤ ALL_NODES
  by_all true e k = absurd (let z : err_unit (limit quantities.AllNodes) ≡ Ok u = k in cc)
  by_all false e k = ltb-false ALL_NODES (before + nodes + added) e

  by_nodes : (b : Bool) → cond b (Err (limit quantities.Nodes)) (refuse (nat_lt ALL_NODES (before + nodes + added)) (limit quantities.AllNodes)) ≡ Ok u → before + nodes + added ≤ ALL_NODES
  by_nodes true k = absurd (let z : err_unit (limit quantities.Nodes) ≡ Ok u = k in cc)
  by_nodes false k = by_all (nat_lt ALL_NODES (before + nodes + added)) refl k

fitted : (taken next : LinesTaken) (locals : List Name) (line : Line) (added : ℕ) (u : Unit {0}) → nodes_fit taken.nodes_before (lines_nodes taken.lines) added ≡ Ok u → line_nodes line ≡ added
    → ok_taken (with_line taken locals line) ≡ Ok next → IsFitted taken next
fitted taken next locals line added u fits size is =
    let same : with_line taken locals line ≡ next = same_ok (with_line taken locals line) next is in
    let grown : lines_nodes next.lines ≡ lines_nodes taken.lines + added = ap (λ (t : LinesTaken). lines_nodes t.lines) (sym same) ∙ lines_nodes-append taken.lines (line ∷ []) ∙ omega (arith, size) in
    record {
      before = ap (λ (t : LinesTaken). t.nodes_before) (sym same);
      few = omega (arith, room taken.nodes_before (lines_nodes taken.lines) added u fits, grown);
    }

set_fits : (taken next : LinesTaken) (name : Name) (e : WrittenExpr) → after_set taken name e ≡ Ok next → IsFitted taken next
set_fits taken next name e h =
    let a = bind_ok (nodes_fit taken.nodes_before (lines_nodes taken.lines) (1 + written_nodes e)) (λ (a : Unit {0}). local_fits taken.locals (index_of name taken.locals) >>= λ (b : Unit {0}). resolved taken.locals taken.slots e >>= λ (x : Expr). Ok (with_numbered taken name (λ l. SetLine l x))) next h in
    let b = bind_ok (local_fits taken.locals (index_of name taken.locals)) (λ (b : Unit {0}). resolved taken.locals taken.slots e >>= λ (x : Expr). Ok (with_numbered taken name (λ l. SetLine l x))) next a.2 in
    let c = bind_ok (resolved taken.locals taken.slots e) (λ (x : Expr). Ok (with_numbered taken name (λ l. SetLine l x))) next b.2 in
    let size : 1 + expr_nodes c.0 ≡ 1 + written_nodes e = omega (arith, (resolved_is taken.locals taken.slots e c.0 c.1).nodes) in
    fitted taken next _ _ (1 + written_nodes e) a.0 a.1 size c.2

put_fits : (taken next : LinesTaken) (name : Name) (index e : WrittenExpr) → after_put taken name index e ≡ Ok next → IsFitted taken next
put_fits taken next name index e h =
    let a = bind_ok (nodes_fit taken.nodes_before (lines_nodes taken.lines) (1 + written_nodes index + written_nodes e)) (λ (a : Unit {0}). known name (drop taken.reads taken.slots) >>= λ (o : ℕ). resolved taken.locals taken.slots index >>= λ (i : Expr). resolved taken.locals taken.slots e >>= λ (x : Expr). Ok (with_line taken taken.locals (PutLine o i x))) next h in
    let b = bind_ok (known name (drop taken.reads taken.slots)) (λ (o : ℕ). resolved taken.locals taken.slots index >>= λ (i : Expr). resolved taken.locals taken.slots e >>= λ (x : Expr). Ok (with_line taken taken.locals (PutLine o i x))) next a.2 in
    let c = bind_ok (resolved taken.locals taken.slots index) (λ (i : Expr). resolved taken.locals taken.slots e >>= λ (x : Expr). Ok (with_line taken taken.locals (PutLine b.0 i x))) next b.2 in
    let d = bind_ok (resolved taken.locals taken.slots e) (λ (x : Expr). Ok (with_line taken taken.locals (PutLine b.0 c.0 x))) next c.2 in
    let size : 1 + expr_nodes c.0 + expr_nodes d.0 ≡ 1 + written_nodes index + written_nodes e = omega (arith, (resolved_is taken.locals taken.slots index c.0 c.1).nodes, (resolved_is taken.locals taken.slots e d.0 d.1).nodes) in
    fitted taken next taken.locals (PutLine b.0 c.0 d.0) (1 + written_nodes index + written_nodes e) a.0 a.1 size d.2

for_fits : (taken next : LinesTaken) (name : Name) (count : ℕ) → after_for taken name count ≡ Ok next → IsFitted taken next
for_fits taken next name count h =
    let a = bind_ok (nodes_fit taken.nodes_before (lines_nodes taken.lines) 1) (λ (a : Unit {0}). loop_fits (loops_open taken.lines) count >>= λ (b : Unit {0}). local_fits taken.locals (index_of name taken.locals) >>= λ (c : Unit {0}). Ok (with_numbered taken name (λ l. ForLine l count))) next h in
    let b = bind_ok (loop_fits (loops_open taken.lines) count) (λ (b : Unit {0}). local_fits taken.locals (index_of name taken.locals) >>= λ (c : Unit {0}). Ok (with_numbered taken name (λ l. ForLine l count))) next a.2 in
    let c = bind_ok (local_fits taken.locals (index_of name taken.locals)) (λ (c : Unit {0}). Ok (with_numbered taken name (λ l. ForLine l count))) next b.2 in
    fitted taken next _ _ 1 a.0 a.1 refl c.2

done_fits : (taken next : LinesTaken) → taken.nodes_before + lines_nodes taken.lines ≤ ALL_NODES → after_done taken ≡ Ok next → IsFitted taken next
done_fits taken next few h = by_loops (loops_open taken.lines == 0) h where
  by_loops : (b : Bool) → cond b (Err body_faults.Text) (ok_taken (with_line taken taken.locals DoneLine)) ≡ Ok next → IsFitted taken next
  by_loops true k = absurd (let z : err_taken body_faults.Text ≡ Ok next = k in cc)
  by_loops false k =
      let same : with_line taken taken.locals DoneLine ≡ next = same_ok (with_line taken taken.locals DoneLine) next k in
      let grown : lines_nodes next.lines ≡ lines_nodes taken.lines = ap (λ (t : LinesTaken). lines_nodes t.lines) (sym same) ∙ lines_nodes-append taken.lines (DoneLine ∷ []) ∙ omega arith in
      record { before = ap (λ (t : LinesTaken). t.nodes_before) (sym same); few = omega (arith, grown, few) }

line_fits : (taken next : LinesTaken) (w : WrittenLine) → taken.nodes_before + lines_nodes taken.lines ≤ ALL_NODES → after_line taken w ≡ Ok next → IsFitted taken next
line_fits taken next (Set name e) few h = set_fits taken next name e h
line_fits taken next (Put name index e) few h = put_fits taken next name index e h
line_fits taken next (For name count) few h = for_fits taken next name count h
line_fits taken next Done few h = done_fits taken next few h

-- What tokens come to: nothing, a line, too deep a line, or no line.
pub data BodyCase (taken : LinesTaken) (ts : List Token) (outcome : Result LinesTaken BodyFault) : Type 0 where
  empty : ts ≡ [] → outcome ≡ Ok taken → BodyCase taken ts outcome
  deep : DEPTH < depth_of ts → outcome ≡ Err (body_faults.Limit quantities.Depth) → BodyCase taken ts outcome
  line : (w : WrittenLine) → ts ≡ line_tokens w → depth_of ts ≤ DEPTH → outcome ≡ after_line taken w → BodyCase taken ts outcome
  none : ts ≢ [] → depth_of ts ≤ DEPTH → ((w : WrittenLine) → ts ≢ line_tokens w) → outcome ≡ Err body_faults.Text → BodyCase taken ts outcome

pub body_case : (taken : LinesTaken) (ts : List Token) (outcome : Result LinesTaken BodyFault) → IsBodyOutcome taken ts outcome → BodyCase taken ts outcome
body_case taken [] outcome o = empty refl (o.empty refl)
body_case taken (t ∷ ts) outcome o = by_depth (cases_lt DEPTH (depth_of (t ∷ ts))) where
  some : t ∷ ts ≢ []
  some e = cc

  by_line : depth_of (t ∷ ts) ≤ DEPTH → ((w : WrittenLine) × (t ∷ ts ≡ line_tokens w)) ⊎ ((w : WrittenLine) → t ∷ ts ≢ line_tokens w) → BodyCase taken (t ∷ ts) outcome
  by_line shallow (inl found) = line found.0 found.1 shallow (o.line found.0 found.1 shallow)
  by_line shallow (inr other) = none some shallow other (o.no_line some shallow other)

  by_depth : (DEPTH < depth_of (t ∷ ts)) ⊎ (depth_of (t ∷ ts) ≤ DEPTH) → BodyCase taken (t ∷ ts) outcome
  by_depth (inl much) = deep much (o.deep much)
  by_depth (inr shallow) = by_line shallow (line_is_decided (t ∷ ts) shallow)

fits_next : (nodes : ℕ) (taken next : LinesTaken) (ts : List Token) → FitsBody nodes (Ok taken) → IsBodyOutcome taken ts (Ok next) → FitsBody nodes (Ok next)
fits_next nodes taken next ts fits o = by_case (body_case taken ts (Ok next) o) where
  by_case : BodyCase taken ts (Ok next) → FitsBody nodes (Ok next)
  by_case (empty nothing is) =
      let same : taken ≡ next = sym (same_ok next taken is) in
      subst (λ (t : LinesTaken). FitsBody nodes (Ok t)) same fits
  by_case (deep much is) = absurd (let z : ok_taken next ≡ Err (body_faults.Limit quantities.Depth) = is in cc)
  by_case (line w spelled shallow is) =
      let f = line_fits taken next w (omega (arith, fits.0, fits.1)) (sym is) in
      (f.before ∙ fits.0, omega (arith, f.few, fits.0))
  by_case (none some shallow other is) = absurd (let z : ok_taken next ≡ Err body_faults.Text = is in cc)

-- lines that are taken leave the body within what the bodies before it leave of the nodes
pub fits_on : (nodes : ℕ) (part : OpenPart) (ts : List Token) (next : LinesTaken) → FitsPart nodes part → nodes ≤ ALL_NODES → GoesOn (reader_of part nodes) ts (Ok next) → FitsBody nodes (Ok next)
fits_on nodes AfterTask ts next fits few o = fits_next nodes (no_lines [] [] nodes) next ts (refl, omega arith) o
fits_on nodes (AfterReads names) ts next fits few o = fits_next nodes (no_lines names [] nodes) next ts (refl, omega arith) o
fits_on nodes (InBody (Ok taken)) ts next fits few o = fits_next nodes taken next ts fits o
fits_on nodes (InBody (Err fault)) ts next fits few o = absurd (let z : ok_taken next ≡ Err fault = o in cc)
