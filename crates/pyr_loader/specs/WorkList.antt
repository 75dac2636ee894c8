-- The work list of a rehearsal. No public clause cites this.
use Rattle.std.specs.Prelude.{ℕ, ◌<◌, List, [], ◌∷◌, ◌++◌, Option, Some, None, All, Contains}
use Rattle.pyr_net.specs.Net.{Rules, World, IsEnabled}
use Rattle.pyr_net.specs.declared.action.Action.{Action}
use Rattle.pyr_net.specs.declared.action.Action.TheVariants.{Internal, Send, Take, Ended, Lacks}

-- the actor at the other end of the list that changes, where one does
abbrev pub partner_of : Action → Option ℕ
partner_of Internal = None
partner_of (Send to) = Some to
partner_of (Take from) = Some from
partner_of Ended = None
partner_of Lacks = None

-- every actor that can make a step is in the work list
abbrev pub IsListed : {L P : Type 0} → Rules L P → World L P → List ℕ → Type 0
IsListed net w waiting = (p : ℕ) → IsEnabled net w p → Contains waiting p

-- these, and this one behind them where there is one
abbrev pub with_partner : Option ℕ → List ℕ → List ℕ
with_partner None waiting = waiting
with_partner (Some q) waiting = waiting ++ q ∷ []

-- the work list has actors of the net alone
abbrev pub AreActors : {L P : Type 0} → Rules L P → List ℕ → Type 0
AreActors net waiting = All (λ p. p < net.actors) waiting

-- these are the numbers below n
pub record AreBelow (n : ℕ) (waiting : List ℕ) : Type 0 where
  pub listed : (p : ℕ) → p < n → Contains waiting p
  pub within : All (λ p. p < n) waiting
