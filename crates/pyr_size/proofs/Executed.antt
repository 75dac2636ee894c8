-- Where the tasks are executed, and the tables of their blocks.
use Rattle.std.proofs.Common.{◌≡◌, ◌≢◌, ℕ, zero, suc, ◌+◌, ◌<◌, ◌≤◌, ◌==◌, ◌||◌, Bool, true, false, cond, List, [], ◌∷◌, length, set, get_or, slice_get, Some, None, ◌⊎◌, inl, inr, refl, sym, ap, ◌∙◌, subst, arith, length-set, get_or-set_same}
use Rattle.std.specs.List.{list_any}
use Rattle.std.proofs.lemmas.Bool.{cases_lt, eq-eqb, eqb-true, or_cases}
use Rattle.std.proofs.lemmas.Bool.Decides.{eqb_tells}
use Rattle.std.proofs.lemmas.List.{get_or_past, get_or-set_other}
use Rattle.std.proofs.lemmas.Option.{same_Some, none-some}
use Rattle.pyr_num.specs.declared.ids.TaskId.{TaskId}
use Rattle.pyr_bundle.specs.declared.instr.Instr.{Instr}
use Rattle.pyr_bundle.specs.declared.instr.Instr.TheVariants.{Recv, Exec, Send}
use Rattle.pyr_bundle.specs.Parts.{Parts, processor_count, task_count, code_at, task_id}
use Rattle.pyr_bundle.specs.WellFormed.{IsWellFormed}
use Rattle.pyr_size.specs.Blocks.{is_exec_of, leading_sends, block_size, home_from, home, noted, no_block, block_of, AreBlocks}
use Rattle.pyr_size.specs.declared.blocks.Block.{Block}

-- where a task is executed in a code
any_exec : (t : ℕ) (code : List Instr) → list_any (is_exec_of t) code ≡ true → (i : ℕ) × (slice_get code i ≡ Some (Exec (task_id t)))
any_exec t [] e = absurd (let no' : false ≡ true = e in cc)
any_exec t (x ∷ code) e = elim (or_cases (is_exec_of t x) (list_any (is_exec_of t) code) e) [
  | inl here ↦ (0, ap Some (at x here))
  | inr there ↦ (let i = any_exec t code there in (suc i.0, i.1))
]
  where
    at : (x : Instr) → is_exec_of t x ≡ true → x ≡ Exec (task_id t)
    at (Recv from d) e = absurd (let no' : false ≡ true = e in cc)
    at (Exec u) e = ap (λ n. Exec (task_id n)) (eqb-true u.0 t e)
    at (Send to d) e = absurd (let no' : false ≡ true = e in cc)

exec_any : (t : ℕ) (code : List Instr) (i : ℕ) → slice_get code i ≡ Some (Exec (task_id t)) → list_any (is_exec_of t) code ≡ true
exec_any t [] zero e = absurd (none-some (Exec (task_id t)) e)
exec_any t [] (suc i) e = absurd (none-some (Exec (task_id t)) e)
exec_any t (x ∷ code) zero e = rw (same_Some x (Exec (task_id t)) e, eq-eqb t t refl) refl
exec_any t (x ∷ code) (suc i) e = at (is_exec_of t x) (exec_any t code i e)
  where
    at : (c : Bool) → list_any (is_exec_of t) code ≡ true → (c || list_any (is_exec_of t) code) ≡ true
    at true h = refl
    at false h = h

-- no other place of the code executes it
abbrev Once : ℕ → List Instr → Type 0
Once t code = (i j : ℕ) → slice_get code i ≡ Some (Exec (task_id t)) → slice_get code j ≡ Some (Exec (task_id t)) → i ≡ j

once_rest : (t : ℕ) (x : Instr) (code : List Instr) → Once t (x ∷ code) → Once t code
once_rest t x code once i j e f = let s = once (suc i) (suc j) e f in omega (arith, s)

-- the table keeps its length, and the blocks of tasks that are not executed here
pub noted_length : (p r : ℕ) (code : List Instr) (blocks : List Block) → length (noted p r code blocks) ≡ length blocks
noted_length p r [] blocks = refl
noted_length p r (Recv from d ∷ code) blocks = noted_length p (r + 1) code blocks
noted_length p r (Exec u ∷ code) blocks =
    noted_length p 0 code (set blocks u.0 (record { processor = p; size = r + 1 + leading_sends code }))
    ∙ length-set blocks u.0 (record { processor = p; size = r + 1 + leading_sends code })
noted_length p r (Send to d ∷ code) blocks = noted_length p 0 code blocks

noted_other : (p r t : ℕ) (code : List Instr) (blocks : List Block) → list_any (is_exec_of t) code ≡ false → get_or (noted p r code blocks) t no_block ≡ get_or blocks t no_block
noted_other p r t [] blocks e = refl
noted_other p r t (Recv from d ∷ code) blocks e = noted_other p (r + 1) t code blocks e
noted_other p r t (Exec u ∷ code) blocks e = at (eqb_tells u.0 t) e (noted_other p 0 t code (set blocks u.0 new))
  where
    new : Block
    new = record { processor = p; size = r + 1 + leading_sends code }

    at : (((u.0 == t) ≡ true) × (u.0 ≡ t)) ⊎ (((u.0 == t) ≡ false) × (u.0 ≢ t)) → list_any (is_exec_of t) (Exec u ∷ code) ≡ false
        → (list_any (is_exec_of t) code ≡ false → get_or (noted p 0 code (set blocks u.0 new)) t no_block ≡ get_or (set blocks u.0 new) t no_block)
        → get_or (noted p 0 code (set blocks u.0 new)) t no_block ≡ get_or blocks t no_block
    at (inl i) f ih = absurd (let no' : true ≡ false = sym (ap (λ c. c || list_any (is_exec_of t) code) i.0) ∙ f in cc)
    at (inr i) f ih =
        ih (sym (ap (λ c. c || list_any (is_exec_of t) code) i.0) ∙ f)
        ∙ get_or-set_other blocks u.0 t new no_block (λ s. i.1 (sym s))
noted_other p r t (Send to d ∷ code) blocks e = noted_other p 0 t code blocks e

-- and has the block of a task that is executed here
noted_here : (p r t : ℕ) (code : List Instr) (blocks : List Block) → Once t code → list_any (is_exec_of t) code ≡ true → t < length blocks
    → get_or (noted p r code blocks) t no_block ≡ record { processor = p; size = block_size t r code }
noted_here p r t [] blocks once e inside = absurd (let no' : false ≡ true = e in cc)
noted_here p r t (Recv from d ∷ code) blocks once e inside = noted_here p (r + 1) t code blocks (once_rest t (Recv from d) code once) e inside
noted_here p r t (Exec u ∷ code) blocks once e inside = at (eqb_tells u.0 t) e (list_any (is_exec_of t) code) refl (noted_here p 0 t code (set blocks u.0 new))
  where
    new : Block
    new = record { processor = p; size = r + 1 + leading_sends code }

    at : (((u.0 == t) ≡ true) × (u.0 ≡ t)) ⊎ (((u.0 == t) ≡ false) × (u.0 ≢ t)) → list_any (is_exec_of t) (Exec u ∷ code) ≡ true → (c : Bool) → list_any (is_exec_of t) code ≡ c
        → (Once t code → list_any (is_exec_of t) code ≡ true → t < length (set blocks u.0 new) → get_or (noted p 0 code (set blocks u.0 new)) t no_block ≡ record { processor = p; size = block_size t 0 code })
        → get_or (noted p 0 code (set blocks u.0 new)) t no_block ≡ record { processor = p; size = cond (u.0 == t) (r + 1 + leading_sends code) (block_size t 0 code) }
    at (inl i) f true there ih =
        let j = any_exec t code there in
        let both = once 0 (suc j.0) (ap (λ n. Some (Exec (task_id n))) i.1) j.1 in
        absurd (omega (arith, both))
    at (inl i) f false there ih =
        noted_other p 0 t code (set blocks u.0 new) there
        ∙ ap (λ n. get_or (set blocks n new) t no_block) i.1
        ∙ get_or-set_same blocks t new no_block inside
        ∙ ap (λ (c : Bool). record { processor = p; size = cond c (r + 1 + leading_sends code) (block_size t 0 code) }) (sym i.0)
    at (inr i) f c there ih =
        ih (once_rest t (Exec u) code once) (sym (ap (λ c. c || list_any (is_exec_of t) code) i.0) ∙ f) (subst (λ n. t < n) (sym (length-set blocks u.0 new)) inside)
        ∙ ap (λ (c : Bool). record { processor = p; size = cond c (r + 1 + leading_sends code) (block_size t 0 code) }) (sym i.0)
noted_here p r t (Send to d ∷ code) blocks once e inside = noted_here p 0 t code blocks (once_rest t (Send to d) code once) e inside

-- the first code that executes the task
home_is : (t p q : ℕ) (codes : List (List Instr)) → list_any (is_exec_of t) (get_or codes q []) ≡ true → ((k : ℕ) → k < q → list_any (is_exec_of t) (get_or codes k []) ≡ false) → home_from t p codes ≡ p + q
home_is t p zero [] e none = absurd (let no' : false ≡ true = e in cc)
home_is t p (suc q) [] e none = absurd (let no' : false ≡ true = e in cc)
home_is t p zero (code ∷ codes) e none = ap (λ c. cond c p (home_from t (p + 1) codes)) e ∙ (let e : p ≡ p + 0 = omega arith in e)
home_is t p (suc q) (code ∷ codes) e none =
    ap (λ c. cond c p (home_from t (p + 1) codes)) (none 0 (omega arith))
    ∙ home_is t (p + 1) q codes e (λ k l. none (suc k) (omega (arith, l)))
    ∙ (let e : p + 1 + q ≡ p + suc q = omega arith in e)

module _ (b : Parts) (well : IsWellFormed b) (t : ℕ) where
  once : (p : ℕ) → Once t (code_at b p)
  once p i j e f = (well.one_exec p i p j (task_id t) e f).1

  -- one processor executes the task
  one_home : (p q : ℕ) → list_any (is_exec_of t) (code_at b p) ≡ true → list_any (is_exec_of t) (code_at b q) ≡ true → p ≡ q
  one_home p q e f =
      let i = any_exec t (code_at b p) e in
      let j = any_exec t (code_at b q) f in
      (well.one_exec p i.0 q j.0 (task_id t) i.1 j.1).0

  pub home_at : (q : ℕ) → list_any (is_exec_of t) (code_at b q) ≡ true → home b t ≡ q
  home_at q e = home_is t 0 q b.code e none ∙ (let same : 0 + q ≡ q = omega arith in same)
    where
      none : (k : ℕ) → k < q → list_any (is_exec_of t) (code_at b k) ≡ false
      none k l = at (list_any (is_exec_of t) (code_at b k)) refl
        where
          at : (c : Bool) → list_any (is_exec_of t) (code_at b k) ≡ c → c ≡ false
          at true f = let same = one_home k q f e in absurd (omega (arith, l, same))
          at false f = refl

-- the table has the blocks of the tasks that the first n processors execute
pub record HasBlocks (b : Parts) (n : ℕ) (blocks : List Block) : Type 0 where
  pub count : length blocks ≡ task_count b
  pub each : (t q : ℕ) → t < task_count b → q < n → list_any (is_exec_of t) (code_at b q) ≡ true → get_or blocks t no_block ≡ block_of b t

pub no_blocks : (b : Parts) (blocks : List Block) → length blocks ≡ task_count b → HasBlocks b 0 blocks
no_blocks b blocks count = record { count = count; each = λ t q inside low e. absurd (omega (arith, low)) }

pub blocks_more : (b : Parts) (p : ℕ) (code : List Instr) (blocks new : List Block) → IsWellFormed b → code ≡ code_at b p → new ≡ noted p 0 code blocks → HasBlocks b p blocks → HasBlocks b (p + 1) new
blocks_more b p code blocks new well is after has = subst (HasBlocks b (p + 1)) (sym (after ∙ ap (λ (c : List Instr). noted p 0 c blocks) is)) (record {
  count = noted_length p 0 (code_at b p) blocks ∙ has.count;
  each = λ t q inside low e. at t q inside e (cases_lt q p) low;
})
  where
    at : (t q : ℕ) → t < task_count b → list_any (is_exec_of t) (code_at b q) ≡ true → (q < p) ⊎ (p ≤ q) → q < p + 1 → get_or (noted p 0 (code_at b p) blocks) t no_block ≡ block_of b t
    at t q inside e (inl before) low = noted_other p 0 t (code_at b p) blocks (other (list_any (is_exec_of t) (code_at b p)) refl) ∙ has.each t q inside before e
      where
        other : (c : Bool) → list_any (is_exec_of t) (code_at b p) ≡ c → c ≡ false
        other true f = let same = one_home b well t q p e f in absurd (omega (arith, before, same))
        other false f = refl
    at t q inside e (inr past) low =
        let same : q ≡ p = omega (arith, past, low) in
        let here : list_any (is_exec_of t) (code_at b p) ≡ true = subst (λ k. list_any (is_exec_of t) (code_at b k) ≡ true) same e in
        noted_here p 0 t (code_at b p) blocks (once b well t p) here (subst (λ n. t < n) (sym has.count) inside)
        ∙ ap (λ k. record { processor = k; size = block_size t 0 (code_at b k) }) (sym (home_at b well t p here))

pub all_blocks : (b : Parts) (n : ℕ) (blocks : List Block) → IsWellFormed b → processor_count b ≤ n → HasBlocks b n blocks → AreBlocks b blocks
all_blocks b n blocks well all has = record {
  count = has.count;
  each = λ t inside.
      let (p, i, stands) = well.some_exec t inside in
      has.each t p inside (let l = below p i stands in omega (arith, l, all)) (exec_any t (code_at b p) i stands);
}
  where
    below : (p i : ℕ) {t : ℕ} → slice_get (code_at b p) i ≡ Some (Exec (task_id t)) → p < processor_count b
    below p i {t} e = elim (cases_lt p (processor_count b)) [
      | inl inside ↦ inside
      | inr past ↦ absurd (none-some (Exec (task_id t)) (at i ∙ subst (λ (code : List Instr). slice_get code i ≡ Some (Exec (task_id t))) (get_or_past b.code p [] past) e))
    ]
      where
        at : (i : ℕ) → None ≡ slice_get {X = Instr} [] i
        at zero = refl
        at (suc i) = refl

-- what an exec names exists
pub exec_known : (b : Parts) (p : ℕ) (code : List Instr) (n i : ℕ) (t : TaskId) → IsWellFormed b → code ≡ code_at b p → n ≡ task_count b → slice_get code i ≡ Some (Exec t) → t.0 < n
exec_known b p code n i t well is count e =
    subst (λ m. t.0 < m) (sym count) (well.instrs p i (Exec t) (subst (λ (c : List Instr). slice_get c i ≡ Some (Exec t)) is e))
