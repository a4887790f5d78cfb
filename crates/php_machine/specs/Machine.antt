-- The machine: how data goes on under a kind of control.
use Rattle.std.specs.Prelude.{ℕ, zero, suc, Bool, cond, List, [], ◌∷◌, Option, Some, None}
use Rattle.php_machine.specs.Moves.{Move, Next, Again, Enter, Ask, Inside, Leave, Park, Wake, End, Wrong, Plan, Proceed, Complete, Make, Truth, Yes, No, NoValue, Rules, Outcome, Ended, Stuck, Unnumbered, Unfinished}
use Rattle.php_machine.specs.Control.{Fetch, Silent, Act, Branch, Control, Kept, Taken, take_out}

-- the rest of a run, from the numbers for the frames to come, the data, the controls of the frames
-- (the newest first) and those that are kept
abbrev pub Rest : (D E C : Type 0) → Type 0
Rest D E C = List ℕ → D → List C → List (Kept C) → Outcome D E

module _ {A D W E C : Type 0} (rules : Rules A D W E) (control : Control A W C) (rest : Rest D E C) where
  -- a frame begins over these controls, under the first number
  abbrev pub begun : List ℕ → (ℕ → Bool) → (ℕ → D) → List C → List (Kept C) → Outcome D E
  begun [] is_free at cs kept = Unnumbered
  begun (n ∷ ns) is_free at cs kept = cond (is_free n) (rest ns (at n) cs kept) Unnumbered

  abbrev pub woken : List ℕ → D → Option (Taken C) → List C → Outcome D E
  woken ns d None cs = Stuck
  woken ns d (Some t) cs = rest ns d (t.control ∷ cs) t.others

  -- what a move does to the frames: `here` is where the newest one stands, `next` where it is behind
  -- its action, and the others are below it
  abbrev pub moved : List ℕ → Move D E → C → C → List C → List (Kept C) → Outcome D E
  moved ns (Next d) here next cs kept = rest ns d (next ∷ cs) kept
  moved ns (Again d) here next cs kept = rest ns d (here ∷ cs) kept
  moved ns (Enter f is_free at) here next cs kept = begun ns is_free at (control.start f ∷ next ∷ cs) kept
  moved ns (Ask f is_free at) here next cs kept = begun ns is_free at (control.start f ∷ here ∷ cs) kept
  moved ns (Inside f d) here next cs kept = rest ns d (control.inside f here ∷ cs) kept
  moved ns (Leave d) here next cs kept = rest ns d cs kept
  moved ns (Park g d) here next cs kept = rest ns d cs (record { object = g; control = next } ∷ kept)
  moved ns (Wake g d) here next cs kept = woken ns d (take_out g kept) (next ∷ cs)
  moved ns (End e d) here next cs kept = Ended e d
  moved ns Wrong here next cs kept = Stuck

  abbrev pub chosen : List ℕ → Truth D → C → C → List C → List (Kept C) → Outcome D E
  chosen ns (Yes d) then otherwise cs kept = rest ns d (then ∷ cs) kept
  chosen ns (No d) then otherwise cs kept = rest ns d (otherwise ∷ cs) kept
  chosen ns NoValue then otherwise cs kept = Stuck

  abbrev pub fetched : List ℕ → Fetch A C → D → C → List C → List (Kept C) → Outcome D E
  fetched ns (Silent next) d here cs kept = rest ns d (next ∷ cs) kept
  fetched ns (Act a next) d here cs kept = moved ns (rules.effect a d) here next cs kept
  fetched ns (Branch then otherwise) d here cs kept = chosen ns (rules.truth d) then otherwise cs kept

  abbrev pub served : List ℕ → Option C → D → C → List C → List (Kept C) → Outcome D E
  served ns (Some at) d here cs kept = rest ns (rules.landed d) (at ∷ cs) kept
  served ns None d here cs kept = moved ns (rules.unserved d) here here cs kept

  -- one step of the newest frame
  abbrev pub stepped : List ℕ → Plan D W E → D → C → List C → List (Kept C) → Outcome D E
  stepped ns Proceed d c cs kept = fetched ns (control.fetch c) d c cs kept
  stepped ns (Complete why) d c cs kept = served ns (control.serve why c) d c cs kept
  stepped ns (Make mv) d c cs kept = moved ns mv c c cs kept

  -- without a frame there is otherwise step
  abbrev pub step : Rest D E C
  step ns d [] kept = Stuck
  step ns d (c ∷ cs) kept = stepped ns (rules.plan d) d c cs kept

module _ {A D W E C : Type 0} (rules : Rules A D W E) (control : Control A W C) where
  -- at most so many steps
  abbrev pub run : ℕ → Rest D E C
  run zero ns d cs kept = Unfinished
  run (suc n) ns d cs kept = step rules control (run n) ns d cs kept

  -- at most so many steps of function 0
  abbrev pub runs : ℕ → List ℕ → D → Outcome D E
  runs n ns d = run n ns d (control.start 0 ∷ []) []
