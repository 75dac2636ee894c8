-- The trees of ops that were just made.
use Rattle.std.proofs.Common.{◌≡◌, ℕ, ◌+◌, ◌<◌, List, ◌∷◌, length, get_or, drop, ap, sym, ◌∙◌, arith}
use Rattle.std.proofs.lemmas.List.{drop_more}
use Rattle.pyr_num.specs.declared.arithmetic.Bin.{Bin as Operator}
use Rattle.pyr_code.specs.declared.op.Op.{Op as OpValue}
use Rattle.pyr_code.specs.declared.op.Op.TheVariants.{Push as PushV, Load as LoadV, Store as StoreV, Frame as FrameV, Get as GetV, Put as PutV, Bin as BinV, Sel as SelV, Loop as LoopV, rolls-Push, rolls-Load, rolls-Store, rolls-Frame, rolls-Get, rolls-Put, rolls-Bin, rolls-Sel, rolls-Loop}
use Rattle.pyr_code.specs.declared.op.Op.TheOpen.{Push as PushF, Load as LoadF, Store as StoreF, Frame as FrameF, Get as GetF, Put as PutF, Bin as BinF, Sel as SelF, Loop as LoopF}
use Rattle.pyr_code.specs.declared.op.Op.TheFolds.{fold-roll-Op}
use Rattle.pyr_code.specs.Tree.{Op, Push, Load, Store, Frame, Get, Put, Bin, Sel, Loop}
use Rattle.pyr_code.specs.Seen.{op_of, op_layer, code_of}
use Rattle.pyr_code.specs.Size.{op_work, code_work}

pub op_of-Push : (word : ℕ) → op_of (PushV word) ≡ Push word
op_of-Push word = ap op_of (sym (rolls-Push word)) ∙ fold-roll-Op Op op_layer (PushF word)

pub op_of-Load : (l : ℕ) → op_of (LoadV l) ≡ Load l
op_of-Load l = ap op_of (sym (rolls-Load l)) ∙ fold-roll-Op Op op_layer (LoadF l)

pub op_of-Store : (l : ℕ) → op_of (StoreV l) ≡ Store l
op_of-Store l = ap op_of (sym (rolls-Store l)) ∙ fold-roll-Op Op op_layer (StoreF l)

pub op_of-Frame : op_of FrameV ≡ Frame
op_of-Frame = ap op_of (sym rolls-Frame) ∙ fold-roll-Op Op op_layer FrameF

pub op_of-Get : (slot : ℕ) → op_of (GetV slot) ≡ Get slot
op_of-Get slot = ap op_of (sym (rolls-Get slot)) ∙ fold-roll-Op Op op_layer (GetF slot)

pub op_of-Put : (output : ℕ) → op_of (PutV output) ≡ Put output
op_of-Put output = ap op_of (sym (rolls-Put output)) ∙ fold-roll-Op Op op_layer (PutF output)

pub op_of-Bin : (operator : Operator) → op_of (BinV operator) ≡ Bin operator
op_of-Bin operator = ap op_of (sym (rolls-Bin operator)) ∙ fold-roll-Op Op op_layer (BinF operator)

pub op_of-Sel : op_of SelV ≡ Sel
op_of-Sel = ap op_of (sym rolls-Sel) ∙ fold-roll-Op Op op_layer SelF

pub op_of-Loop : (l count : ℕ) (turn : List OpValue) → op_of (LoopV l count turn) ≡ Loop l count (code_of turn)
op_of-Loop l count turn = ap op_of (sym (rolls-Loop l count turn)) ∙ fold-roll-Op Op op_layer (LoopF l count turn)

-- the tree of a loop whose code is lent as a slice
pub loop_seen : (op : OpValue) (l count : ℕ) (turn lent : List OpValue) → op ≡ LoopV l count turn → lent ≡ turn → op_of op ≡ Loop l count (code_of lent)
loop_seen op l count turn lent e f =
    ap op_of e ∙ op_of-Loop l count turn ∙ ap (λ (ops : List OpValue). Loop l count (code_of ops)) (sym f)

-- the ops that are left before and behind one of them
pub left_more : (ops : List OpValue) (k : ℕ) (item : OpValue) → k < length ops → item ≡ get_or ops k item → drop k ops ≡ item ∷ drop (k + 1) ops
left_more ops k item l is = drop_more ops k item l ∙ ap (λ (x : OpValue). x ∷ drop (k + 1) ops) (sym is)

-- the work of one op more
pub work_more : (ops : List OpValue) (k : ℕ) (item : OpValue) (sum one all : ℕ) → k < length ops → item ≡ get_or ops k item → one ≡ op_work (op_of item) → sum + code_work (code_of (drop k ops)) ≡ all → sum + one + code_work (code_of (drop (k + 1) ops)) ≡ all
work_more ops k item sum one all l is o before =
    let left : code_work (code_of (drop k ops)) ≡ op_work (op_of item) + code_work (code_of (drop (k + 1) ops)) = ap (λ (xs : List OpValue). code_work (code_of xs)) (left_more ops k item l is) in
    omega arith
