-- What a list of actions comes to, from a set of configurations.
use Rattle.std.specs.Prelude.{◌≡◌, Bool, true, false, List, [], ◌↔◌, ℕ, ◌-◌, ◌<◌, length, take}
use Rattle.enforcement.specs.Automaton.{Bytes}
use Rattle.enforcement.specs.Loading.{WellFormed}
use Rattle.enforcement.specs.TimedWord.{Configuration}
use Rattle.enforcement.specs.Model.{Prospect, ticks, extensible, dead, prospect, compile}
use Rattle.retimer.specs.declared.outlook.Outlook.{Outlook}
use Rattle.retimer.specs.declared.outlook.Outlook.TheVariants.{Correct, Extensible, Dead}
use Rattle.retimer.specs.Live.{LiveTable}
use Rattle.retimer.specs.Sets.{Contains, Whole, Reached}

-- The answer for a prospect; x is the lamp without the last action.
abbrev pub outlook_of : Prospect → Bool → Outlook
outlook_of (ticks n) x = Correct
outlook_of extensible x = Extensible
outlook_of dead x = Dead x

-- The actions without the last.
abbrev pub front_of : List ℕ → List ℕ
front_of cs = take (length cs - 1) cs

-- A prospect with a correction, and one that is not dead.
abbrev pub Ends : Prospect → Type 0
Ends (ticks n) = Unit {0}
Ends extensible = ⊥
Ends dead = ⊥

abbrev pub Lives : Prospect → Type 0
Lives (ticks n) = Unit {0}
Lives extensible = Unit {0}
Lives dead = ⊥

-- A member from which the prospect of the actions is as G says.
pub record Some (G : Prospect → Type 0) (s : Bytes) (cs set : List ℕ) : Type 0 where
  pub member : Configuration
  pub contained : Contains s set member
  pub good : G (prospect (compile s) cs member)

-- A live member.
abbrev pub SomeLive : Bytes → List ℕ → Type 0
SomeLive s set = (q : Configuration) × Contains s set q × ((compile s).live q ≡ true)

-- The answer by three facts: a prospect has a correction (E), one is not dead (L), and one without the last action is not dead (F).
abbrev pub OutlookBy : Type 0 → Type 0 → Type 0 → Outlook → Type 0
OutlookBy E L F Correct = E
OutlookBy E L F Extensible = (E → ⊥) × L
OutlookBy E L F (Dead x) = (L → ⊥) × ((x ≡ false) ↔ F)

-- The answer for a set: the best of its members.
abbrev pub Rated : Bytes → List ℕ → List ℕ → Outlook → Type 0
Rated s cs set o = OutlookBy (Some Ends s cs set) (Some Lives s cs set) (Some Lives s (front_of cs) set) o

-- The answer where all is played, by the set reached and the one before the last action.
abbrev pub RatedLast : Bytes → List ℕ → List ℕ → Outlook → Type 0
RatedLast s set next o = OutlookBy (Some Ends s [] next) (SomeLive s next) (SomeLive s set) o

-- What is asked for the members of a set.
pub record SetAsked (s : Bytes) (live set : List ℕ) (places : ℕ) : Type 0 where
  pub loads : WellFormed s
  pub table : LiveTable s live
  pub reached : Reached s set places

-- A state of the search: k actions are played, another is left, and there is room for the next set.
pub record Searched (s : Bytes) (live cs : List ℕ) (k : ℕ) (set : List ℕ) (places : ℕ) (next : List ℕ) : Type 0 where
  pub asked : SetAsked s live set places
  pub left : k < length cs
  pub room : Whole s next
