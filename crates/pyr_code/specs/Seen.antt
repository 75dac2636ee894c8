-- The plain trees that the values of the enum `Op` stand for.
use Rattle.std.specs.Prelude.{List, [], ◌∷◌, map}
use Rattle.pyr_code.specs.declared.op.Op.{Op as OpValue}
use Rattle.pyr_code.specs.declared.op.Op.TheOpen.{Op-F, Push as PushF, Load as LoadF, Store as StoreF, Frame as FrameF, Get as GetF, Put as PutF, Bin as BinF, Sel as SelF, Loop as LoopF}
use Rattle.pyr_code.specs.declared.op.Op.TheFolds.{fold-Op}
use Rattle.pyr_code.specs.Tree.{Op, Push, Load, Store, Frame, Get, Put, Bin, Sel, Loop, Code, End, Then}

-- the ops of a list, in its order
abbrev pub code_from : List Op → Code
code_from [] = End
code_from (op ∷ rest) = Then op (code_from rest)

-- one op, where the ops within it are trees already
abbrev pub op_layer : Op-F Op → Op
op_layer (PushF word) = Push word
op_layer (LoadF l) = Load l
op_layer (StoreF l) = Store l
op_layer FrameF = Frame
op_layer (GetF slot) = Get slot
op_layer (PutF output) = Put output
op_layer (BinF operator) = Bin operator
op_layer SelF = Sel
op_layer (LoopF l count turn) = Loop l count (code_from turn)

-- the tree of an op
abbrev pub op_of : OpValue → Op
op_of = fold-Op Op op_layer

-- the tree of a list of ops
abbrev pub code_of : List OpValue → Code
code_of ops = code_from (map op_of ops)
