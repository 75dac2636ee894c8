-- The lines that tell why no bundle is loaded.
use Rattle.std.specs.Prelude.{ℕ, ◌+◌, ◌==◌, if◌then◌else◌, List, [], ◌∷◌, ◌++◌, codes, decimal}
use Rattle.pyr_loader.specs.declared.stop.Stop.{Stop}
use Rattle.pyr_loader.specs.declared.stop.Reason.{Reason}
use Rattle.pyr_loader.specs.declared.stop.Reason.TheVariants.{Ended, Empty, Full, Lacks}
use Rattle.pyr_loader.specs.declared.load_fault.LoadFault.{LoadFault}
use Rattle.pyr_loader.specs.declared.load_fault.LoadFault.TheVariants.{BadText, Limit, Law, Stuck, Leftover, Memory}
use Rattle.pyr_top.specs.Messages.{text_line, limit_line}

-- why a processor makes no step
abbrev pub reason_text : Reason → List ℕ
reason_text Ended = codes "ended"
reason_text (Empty from) = codes "empty" ++ 32 ∷ decimal from.0
reason_text (Full to) = codes "full" ++ 32 ∷ decimal to.0
reason_text (Lacks d) = codes "lacks" ++ 32 ∷ decimal d.0

-- where a processor stands, and why
abbrev pub stop_text : ℕ → Stop → List ℕ
stop_text p stop = decimal p ++ 58 ∷ decimal stop.place ++ 32 ∷ reason_text stop.reason

-- what stands before the stop of a processor
abbrev pub before_stop : ℕ → List ℕ
before_stop p = if p == 0 then codes "stuck " else codes ", "

-- the stops of the processors from this number on
abbrev pub stops_text : ℕ → List Stop → List ℕ
stops_text p [] = []
stops_text p (stop ∷ stops) = before_stop p ++ stop_text p stop ++ stops_text (p + 1) stops

-- the line of a fault
abbrev pub load_line : LoadFault → List ℕ
load_line (BadText line) = text_line line
load_line (Limit line which) = limit_line line which
load_line (Law number a b) =
    codes "law" ++ 32 ∷ decimal number ++ codes " at" ++ 32 ∷ decimal a ++ 32 ∷ decimal b
    ++ codes "\n"
load_line (Stuck stops) = stops_text 0 stops ++ codes "\n"
load_line (Leftover from to d) =
    codes "leftover" ++ 32 ∷ decimal from.0 ++ 32 ∷ decimal to.0 ++ 32 ∷ decimal d.0 ++ codes "\n"
load_line Memory = codes "no memory\n"
