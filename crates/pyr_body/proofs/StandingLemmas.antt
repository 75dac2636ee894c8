-- The lines taken, with their names put back, are the lines that were written.
use Rattle.std.proofs.Common.{◌≡◌, ℕ, zero, suc, ◌+◌, List, [], ◌∷◌, ◌++◌, length, drop, map, Option, Some, None, Result, Ok, eqb, refl, sym, ap, subst, ◌∙◌, append_assoc}
use Rattle.std.specs.Prelude.{slice_get}
use Rattle.std.proofs.lemmas.List.{append-nil}
use Rattle.std.proofs.lemmas.Bool.{cond_both}
use Rattle.pyr_num.specs.declared.name.Name.{Name}
use Rattle.pyr_body.specs.declared.line_fault.LineFault.{LineFault}
use Rattle.pyr_body.specs.Tree.{Expr}
use Rattle.pyr_body.specs.Tree as tree
use Rattle.pyr_body.specs.Lines.{Line, SetLine, PutLine, ForLine, DoneLine, lines_nodes, loops_open}
use Rattle.pyr_body.specs.Written.{WrittenExpr, Num, Local, Frame, Get, Bin, Sel, written_nodes, WrittenLine, Set, Put, For, Done}
use Rattle.pyr_body.specs.Names.{◌>>=◌, index_of, known, resolved}
use Rattle.pyr_body.specs.Named.{name_at, with_names, line_with_names}
use Rattle.pyr_body.specs.Taking.{LinesTaken, no_lines, nodes_fit, loop_fits, local_fits, numbered, with_line, with_numbered, after_set, after_put, after_for, after_done, after_line}
use Rattle.pyr_body.specs.Laws.{after_all, LinesTakenStand}
use Rattle.pyr_body.proofs.Binding.{bind_ok, same_ok}
use Rattle.pyr_body.proofs.NameLemmas.{known_there, found_first}
use Rattle.pyr_body.proofs.NamedLemmas.{drop_front}

-- a name that stands in a list stands there in a longer one
named_more : (xs ys : List Name) (i : ℕ) (name : Name) → slice_get xs i ≡ Some name → name_at (xs ++ ys) i ≡ name
named_more [] ys i name h = absurd (let j : None ≡ Some name = h in cc)
named_more (x ∷ xs) ys zero name h = let j : Some x ≡ Some name = h in cc
named_more (x ∷ xs) ys (suc i) name h = named_more xs ys i name h

named_there : (xs : List Name) (i : ℕ) (name : Name) → slice_get xs i ≡ Some name → name_at xs i ≡ name
named_there xs i name h = ap (λ ls. name_at ls i) (sym (append-nil xs)) ∙ named_more xs [] i name h

named_last : (xs ys : List Name) (name : Name) → name_at ((xs ++ name ∷ []) ++ ys) (length xs) ≡ name
named_last [] ys name = refl
named_last (x ∷ xs) ys name = named_last xs ys name

-- an expression that got its numbers has the names that it was written with, also where more come
module _ (locals more slots : List Name) where
  resolved_named : (e : WrittenExpr) (x : Expr) → resolved locals slots e ≡ Ok x → with_names (locals ++ more) slots x ≡ e
  resolved_named (Num word) x h = ap (with_names (locals ++ more) slots) (sym (same_ok (tree.Num word) x h))
  resolved_named (Local name) x h =
      let l = bind_ok (known name locals) (λ l. Ok (tree.Local l)) x h in
      ap (with_names (locals ++ more) slots) (sym (same_ok (tree.Local l.0) x l.2))
      ∙ ap Local (named_more locals more l.0 name (known_there name locals l.0 l.1).name_there)
  resolved_named Frame x h = ap (with_names (locals ++ more) slots) (sym (same_ok tree.Frame x h))
  resolved_named (Get name index) x h =
      let slot = bind_ok (known name slots) (λ slot. resolved locals slots index >>= λ i. Ok (tree.Get slot i)) x h in
      let i = bind_ok (resolved locals slots index) (λ i. Ok (tree.Get slot.0 i)) x slot.2 in
      let p = named_there slots slot.0 name (known_there name slots slot.0 slot.1).name_there in
      let q = resolved_named index i.0 i.1 in
      ap (with_names (locals ++ more) slots) (sym (same_ok (tree.Get slot.0 i.0) x i.2)) ∙ (λ j. Get (p j) (q j))
  resolved_named (Bin operator a b) x h =
      let u = bind_ok (resolved locals slots a) (λ u. resolved locals slots b >>= λ v. Ok (tree.Bin operator u v)) x h in
      let v = bind_ok (resolved locals slots b) (λ v. Ok (tree.Bin operator u.0 v)) x u.2 in
      let p = resolved_named a u.0 u.1 in
      let q = resolved_named b v.0 v.1 in
      ap (with_names (locals ++ more) slots) (sym (same_ok (tree.Bin operator u.0 v.0) x v.2)) ∙ (λ j. Bin operator (p j) (q j))
  resolved_named (Sel c a b) x h =
      let t = bind_ok (resolved locals slots c) (λ t. resolved locals slots a >>= λ u. resolved locals slots b >>= λ v. Ok (tree.Sel t u v)) x h in
      let u = bind_ok (resolved locals slots a) (λ u. resolved locals slots b >>= λ v. Ok (tree.Sel t.0 u v)) x t.2 in
      let v = bind_ok (resolved locals slots b) (λ v. Ok (tree.Sel t.0 u.0 v)) x u.2 in
      let o = resolved_named c t.0 t.1 in
      let p = resolved_named a u.0 u.1 in
      let q = resolved_named b v.0 v.1 in
      ap (with_names (locals ++ more) slots) (sym (same_ok (tree.Sel t.0 u.0 v.0) x v.2)) ∙ (λ j. Sel (o j) (p j) (q j))

-- a local that has or gets a number keeps its name
record IsGrown (name : Name) (locals : List Name) (number : ℕ × List Name) (more : List Name) : Type 0 where
  pub grown : number.1 ≡ locals ++ more
  pub named : (rest : List Name) → name_at (number.1 ++ rest) number.0 ≡ name

numbered_grows : (name : Name) (locals : List Name) (o : Option ℕ) → index_of name locals ≡ o → (more : List Name) × IsGrown name locals (numbered name locals o) more
numbered_grows name locals (Some i) e =
    ([], record { grown = sym (append-nil locals); named = λ rest. named_more locals rest i name (found_first name locals i e).name_there })
numbered_grows name locals None e =
    (name ∷ [], record { grown = refl; named = λ rest. named_last locals rest name })

-- one line
record IsWritten (reads writes : List Name) (taken next : LinesTaken) (l : WrittenLine) (x : Line) (more : List Name) : Type 0 where
  pub lines : next.lines ≡ taken.lines ++ x ∷ []
  pub locals : next.locals ≡ taken.locals ++ more
  pub slots : next.slots ≡ taken.slots
  pub reads_as : next.reads ≡ taken.reads
  pub named : (rest : List Name) → line_with_names (next.locals ++ rest) reads writes x ≡ l

module _ (reads writes : List Name) (taken next : LinesTaken) (is_slots : taken.slots ≡ reads ++ writes) (is_reads : taken.reads ≡ length reads) where
  -- with the names of the slots
  slots_named : (more : List Name) (e : WrittenExpr) (x : Expr) → resolved taken.locals taken.slots e ≡ Ok x → with_names (taken.locals ++ more) (reads ++ writes) x ≡ e
  slots_named more e x h =
      ap (λ slots. with_names (taken.locals ++ more) slots x) (sym is_slots) ∙ resolved_named taken.locals more taken.slots e x h

  set_written : (name : Name) (e : WrittenExpr) → after_set taken name e ≡ Ok next → (x : Line) × (more : List Name) × IsWritten reads writes taken next (Set name e) x more
  set_written name e h =
      let a = bind_ok (nodes_fit taken.nodes_before (lines_nodes taken.lines) (1 + written_nodes e)) (λ a. local_fits taken.locals (index_of name taken.locals) >>= λ b. resolved taken.locals taken.slots e >>= λ y. Ok (with_numbered taken name (λ n. SetLine n y))) next h in
      let b = bind_ok (local_fits taken.locals (index_of name taken.locals)) (λ b. resolved taken.locals taken.slots e >>= λ y. Ok (with_numbered taken name (λ n. SetLine n y))) next a.2 in
      let y = bind_ok (resolved taken.locals taken.slots e) (λ y. Ok (with_numbered taken name (λ n. SetLine n y))) next b.2 in
      let n : ℕ × List Name = numbered name taken.locals (index_of name taken.locals) in
      let g = numbered_grows name taken.locals (index_of name taken.locals) refl in
      let is : with_numbered taken name (λ n. SetLine n y.0) ≡ next = same_ok (with_numbered taken name (λ n. SetLine n y.0)) next y.2 in
      let value : (rest : List Name) → with_names (n.1 ++ rest) (reads ++ writes) y.0 ≡ e = λ rest.
      ap (λ ls. with_names (ls ++ rest) (reads ++ writes) y.0) g.1.grown
      ∙ ap (λ ls. with_names ls (reads ++ writes) y.0) (append_assoc taken.locals g.0 rest)
      ∙ slots_named (g.0 ++ rest) e y.0 y.1 in (
        SetLine n.0 y.0,
        g.0,
        subst (λ s. IsWritten reads writes taken s (Set name e) (SetLine n.0 y.0) g.0) is (record {
          lines = refl;
          locals = g.1.grown;
          slots = refl;
          reads_as = refl;
          named = λ rest. let p = g.1.named rest in let q = value rest in λ j. Set (p j) (q j);
        }),
      )

  put_written : (name : Name) (index e : WrittenExpr) → after_put taken name index e ≡ Ok next → (x : Line) × (more : List Name) × IsWritten reads writes taken next (Put name index e) x more
  put_written name index e h =
      let a = bind_ok (nodes_fit taken.nodes_before (lines_nodes taken.lines) (1 + written_nodes index + written_nodes e)) (λ a. known name (drop taken.reads taken.slots) >>= λ p. resolved taken.locals taken.slots index >>= λ u. resolved taken.locals taken.slots e >>= λ y. Ok (with_line taken taken.locals (PutLine p u y))) next h in
      let o = bind_ok (known name (drop taken.reads taken.slots)) (λ p. resolved taken.locals taken.slots index >>= λ u. resolved taken.locals taken.slots e >>= λ y. Ok (with_line taken taken.locals (PutLine p u y))) next a.2 in
      let u = bind_ok (resolved taken.locals taken.slots index) (λ u. resolved taken.locals taken.slots e >>= λ y. Ok (with_line taken taken.locals (PutLine o.0 u y))) next o.2 in
      let y = bind_ok (resolved taken.locals taken.slots e) (λ y. Ok (with_line taken taken.locals (PutLine o.0 u.0 y))) next u.2 in
      let x : Line = PutLine o.0 u.0 y.0 in
      let is : with_line taken taken.locals x ≡ next = same_ok (with_line taken taken.locals x) next y.2 in
      let outputs : drop taken.reads taken.slots ≡ writes = ap (λ k. drop k taken.slots) is_reads ∙ ap (drop (length reads)) is_slots ∙ drop_front reads writes in
      let output : name_at writes o.0 ≡ name =
      ap (λ ls. name_at ls o.0) (sym outputs) ∙ named_there (drop taken.reads taken.slots) o.0 name (known_there name (drop taken.reads taken.slots) o.0 o.1).name_there in (
        x,
        [],
        subst (λ s. IsWritten reads writes taken s (Put name index e) x []) is (record {
          lines = refl;
          locals = sym (append-nil taken.locals);
          slots = refl;
          reads_as = refl;
          named = λ rest. let p = slots_named rest index u.0 u.1 in let q = slots_named rest e y.0 y.1 in λ j. Put (output j) (p j) (q j);
        }),
      )

  for_written : (name : Name) (count : ℕ) → after_for taken name count ≡ Ok next → (x : Line) × (more : List Name) × IsWritten reads writes taken next (For name count) x more
  for_written name count h =
      let a = bind_ok (nodes_fit taken.nodes_before (lines_nodes taken.lines) 1) (λ a. loop_fits (loops_open taken.lines) count >>= λ b. local_fits taken.locals (index_of name taken.locals) >>= λ d. Ok (with_numbered taken name (λ m. ForLine m count))) next h in
      let b = bind_ok (loop_fits (loops_open taken.lines) count) (λ b. local_fits taken.locals (index_of name taken.locals) >>= λ d. Ok (with_numbered taken name (λ m. ForLine m count))) next a.2 in
      let d = bind_ok (local_fits taken.locals (index_of name taken.locals)) (λ d. Ok (with_numbered taken name (λ m. ForLine m count))) next b.2 in
      let n : ℕ × List Name = numbered name taken.locals (index_of name taken.locals) in
      let g = numbered_grows name taken.locals (index_of name taken.locals) refl in
      let is : with_numbered taken name (λ m. ForLine m count) ≡ next = same_ok (with_numbered taken name (λ m. ForLine m count)) next d.2 in (
        ForLine n.0 count,
        g.0,
        subst (λ s. IsWritten reads writes taken s (For name count) (ForLine n.0 count) g.0) is (record {
          lines = refl;
          locals = g.1.grown;
          slots = refl;
          reads_as = refl;
          named = λ rest. ap (λ m. For m count) (g.1.named rest);
        }),
      )

  done_written : after_done taken ≡ Ok next → (x : Line) × (more : List Name) × IsWritten reads writes taken next Done x more
  done_written h =
      let at : with_line taken taken.locals DoneLine ≡ next → IsWritten reads writes taken next Done DoneLine [] = λ is.
      subst (λ s. IsWritten reads writes taken s Done DoneLine []) is (record { lines = refl; locals = sym (append-nil taken.locals); slots = refl; reads_as = refl; named = λ rest. refl }) in
      let go : after_done taken ≡ Ok next → IsWritten reads writes taken next Done DoneLine [] =
      cond_both (eqb (loops_open taken.lines) 0) _ _ (λ (r : Result LinesTaken LineFault). r ≡ Ok next → IsWritten reads writes taken next Done DoneLine []) (λ e. λ k. absurd cc) (λ e. λ k. at (same_ok (with_line taken taken.locals DoneLine) next k)) in
      (DoneLine, [], go h)

  line_written : (l : WrittenLine) → after_line taken l ≡ Ok next → (x : Line) × (more : List Name) × IsWritten reads writes taken next l x more
  line_written (Set name e) h = set_written name e h
  line_written (Put name index e) h = put_written name index e h
  line_written (For name count) h = for_written name count h
  line_written Done h = done_written h

-- lines, one after another
record AreWritten (reads writes : List Name) (taken last : LinesTaken) (ls : List WrittenLine) (new : List Line) (more : List Name) : Type 0 where
  pub lines : last.lines ≡ taken.lines ++ new
  pub locals : last.locals ≡ taken.locals ++ more
  pub named : map (line_with_names last.locals reads writes) new ≡ ls

lines_written : (reads writes : List Name) (ls : List WrittenLine) (taken last : LinesTaken) → taken.slots ≡ reads ++ writes → taken.reads ≡ length reads → after_all taken ls ≡ Ok last → (new : List Line) × (more : List Name) × AreWritten reads writes taken last ls new more
lines_written reads writes [] taken last is_slots is_reads h =
    let is : taken ≡ last = same_ok taken last h in
    ([], [], subst (λ s. AreWritten reads writes taken s [] [] []) is (record { lines = sym (append-nil taken.lines); locals = sym (append-nil taken.locals); named = refl }))
lines_written reads writes (l ∷ ls) taken last is_slots is_reads h =
    let s = bind_ok (after_line taken l) (λ (next : LinesTaken). after_all next ls) last h in
    let one = line_written reads writes taken s.0 is_slots is_reads l s.1 in
    let t = one.2 in
    let rest = lines_written reads writes ls s.0 last (t.slots ∙ is_slots) (t.reads_as ∙ is_reads) s.2 in
    let r = rest.2 in
    let first : line_with_names last.locals reads writes one.0 ≡ l = ap (λ names. line_with_names names reads writes one.0) r.locals ∙ t.named rest.1 in
    let others = r.named in (
      one.0 ∷ rest.0,
      one.1 ++ rest.1,
      record {
        lines = r.lines ∙ ap (λ xs. xs ++ rest.0) t.lines ∙ append_assoc taken.lines (one.0 ∷ []) rest.0;
        locals = r.locals ∙ ap (λ xs. xs ++ rest.1) t.locals ∙ append_assoc taken.locals one.1 rest.1;
        named = λ j. first j ∷ others j;
      },
    )

pub lines_taken_stand : LinesTakenStand
lines_taken_stand reads writes nodes_before ls last h =
    let w = lines_written reads writes ls (no_lines reads writes nodes_before) last refl refl h in
    ap (map (line_with_names last.locals reads writes)) w.2.lines ∙ w.2.named
