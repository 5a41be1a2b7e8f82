-- The laws of the two computers, over every list of calls from a new computer.
use Rattle.std.specs.Prelude.{◌≡◌, ℕ, zero, suc, ◌+◌, ◌*◌, ◌<◌, ◌≤◌, Bool, true, false, cond, ◌&&◌, List, [], ◌∷◌, ◌++◌, length, Some, None, Option}
use Rattle.memory.specs.Contents.{Contents, size, stored}
use Rattle.line.specs.Rules.{Rule, Proper, Alike, reply_to}
use Rattle.machine.specs.declared.call.Call.{Call}
use Rattle.machine.specs.declared.call.Call.TheVariants.{Clock, Start, Aim, Deposit, Examine}
use Rattle.machine.specs.Words.{opcode}
use Rattle.machine.specs.Beat.{Connection, flagged, status}
use Rattle.machine.specs.Boards.{ClockBoard, CycleBoard, seen, new_clock_board, new_cycle_board, Sound}
use Rattle.machine.specs.Gates.{ac_inpr}
use Rattle.machine.specs.Clock.{connection, moved}
use Rattle.machine.specs.Cycle.{clocks, Ran, ran}
use Rattle.machine.specs.Calls.{Outcome, answered, refused, turned_down, on_clocked, on_cycled}
use Rattle.machine.specs.Lists.{Made, made, after_all, calls_of, Step, on_its_way, ended, no_clock, step, inside_at_end, short, clocks_granted, Ended, cycles, cycles_after}

-- n clocks, or n cycles
abbrev pub times : ℕ → List Call
times zero = []
times (suc n) = Clock ∷ times n

-- A CYCLE BY ITS CLOCKS

-- Of k clocks made on b, all but the last answer 0, so that the short list is one cycle; it answers k. They leave what one
-- cycle leaves.
pub record ByClocks (k : ℕ) (b : ClockBoard) : Type 0 where
  pub clocks : short (times k) b ≡ record { call = Clock; outcome = answered k } ∷ []
  pub cycle : (on_cycled Clock (seen b)).outcome ≡ answered k
  pub after : seen (after_all on_clocked (times k) b) ≡ (on_cycled Clock (seen b)).after

-- So it is between cycles, with S up and 4096 words in the memory.
abbrev pub CycleByClocks : Type 0
CycleByClocks =
    (b : ClockBoard) → b.registers.sc ≡ 0 → b.registers.s ≡ true → b.registers.pc < 4096 → size b.contents ≡ 4096
    → ByClocks (clocks (seen b)) b

-- TWINS AGREE

-- what the computers agree in
pub record Agree (b : ClockBoard) (t : CycleBoard) : Type 0 where
  pub contents : b.contents ≡ t.contents
  pub ac : b.registers.ac ≡ t.visible.ac
  pub e : b.registers.e ≡ t.visible.e
  pub pc : b.registers.pc ≡ t.visible.pc
  pub ien : b.registers.ien ≡ t.visible.ien
  pub r : b.registers.r ≡ t.visible.r
  pub s : b.registers.s ≡ t.visible.s
  pub fgi : b.registers.port.fgi ≡ t.visible.port.fgi
  pub fgo : b.registers.port.fgo ≡ t.visible.port.fgo
  pub inpr : b.registers.port.inpr ≡ t.visible.port.inpr
  pub outr : b.registers.port.outr ≡ t.visible.port.outr
  pub lines : Alike b.rule t.rule

-- The calls on b, and their short list on its twin t: call by call the twin returns what the originals returned, and the two
-- agree if b is between cycles at the end.
pub record Twins (calls : List Call) (b : ClockBoard) (t : CycleBoard) : Type 0 where
  pub call_by_call : made on_cycled (calls_of (short calls b)) t ≡ short calls b
  pub between_cycles :
      inside_at_end false (made on_clocked calls b) ≡ false
      → Agree (after_all on_clocked calls b) (after_all on_cycled (calls_of (short calls b)) t)

-- From equal contents and lines that reply alike, twins agree after every list of calls.
abbrev pub TwinsAgree : Type 0
TwinsAgree =
    (contents contents' : Contents) (rule rule' : Rule) → contents ≡ contents' → Alike rule rule' → (calls : List Call)
    → Twins calls (new_clock_board contents rule) (new_cycle_board contents' rule')

-- NO CYCLE TAKES MORE THAN SEVEN CLOCKS

-- no answer is above seven
abbrev pub Few : Step → Type 0
Few on_its_way = Unit {0}
Few (ended k) = k ≤ 7
Few no_clock = Unit {0}

abbrev pub AllFew : List Made → Type 0
AllFew [] = Unit {0}
AllFew (m ∷ ms) = Few (step m.call m.outcome) × AllFew ms

abbrev pub SevenAtMost : Type 0
SevenAtMost = (contents : Contents) (rule : Rule) (calls : List Call) → AllFew (made on_clocked calls (new_clock_board contents rule))

-- nor on the computer that makes whole cycles
abbrev pub SevenAtMostByCycles : Type 0
SevenAtMostByCycles = (calls : List Call) (t : CycleBoard) → AllFew (made on_cycled calls t)

-- A clock that ends a cycle answers how many clocks were granted since the last one ended, and never are seven granted that
-- end none; n were granted before this call.
abbrev pub CountedBy : ℕ → Step → (ℕ → Type 0) → Type 0
CountedBy n on_its_way rest = (n < 6) × rest (suc n)
CountedBy n (ended k) rest = (k ≡ suc n) × rest 0
CountedBy n no_clock rest = rest n

abbrev pub Counted : List Made → ℕ → Type 0
Counted [] n = Unit {0}
Counted (m ∷ ms) n = CountedBy n (step m.call m.outcome) (Counted ms)

abbrev pub ClocksCounted : Type 0
ClocksCounted = (contents : Contents) (rule : Rule) (calls : List Call) → Counted (made on_clocked calls (new_clock_board contents rule)) 0

-- From every point of every list on, each seven granted clocks end a cycle.
abbrev pub SevenEndOne : Type 0
SevenEndOne =
    (contents : Contents) (rule : Rule) (before later : List Call) (k : ℕ)
    → let b = new_clock_board contents rule in
    7 * k ≤ clocks_granted (made on_clocked later (after_all on_clocked before b)) → k ≤ length (cycles_after before later b)

-- The list of cycles, part by part: those that end during `before`, and then those that end during `later`.
abbrev pub CyclesInOrder : Type 0
CyclesInOrder =
    (before later : List Call) (b : ClockBoard) → cycles None (before ++ later) b ≡ cycles None before b ++ cycles_after before later b

-- AN INTERRUPT COMES IN TIME

-- the interrupt cycle: begun with R up, of three clocks, PC saved at address 0, PC 1, IEN and R down
pub record InterruptCycle (x : Ended) : Type 0 where
  pub noted : x.began.registers.r ≡ true
  pub three : x.clocks ≡ 3
  pub saved : x.left.contents ≡ stored x.began.contents 0 x.began.registers.pc
  pub resumed : x.left.registers.pc ≡ 1
  pub disabled : x.left.registers.ien ≡ false
  pub lowered : x.left.registers.r ≡ false

abbrev pub First : (Ended → Type 0) → List Ended → Type 0
First P [] = Unit {0}
First P (x ∷ xs) = P x

-- the first cycle leaves R up, and the second is the interrupt cycle
abbrev pub InterruptNext : List Ended → Type 0
InterruptNext [] = Unit {0}
InterruptNext (x ∷ xs) = (x.left.registers.r ≡ true) × First InterruptCycle xs

-- At every point of every list at which IEN and a flag are up and R is down: the next cycle to end leaves R up, and the one
-- after it is the interrupt cycle. Panel calls and refusals may stand in between.
abbrev pub InterruptInTime : Type 0
InterruptInTime =
    (contents : Contents) (rule : Rule) (before later : List Call)
    → let b = new_clock_board contents rule in
    let c = (after_all on_clocked before b).registers in
    c.ien ≡ true → flagged c.port ≡ true → c.r ≡ false → InterruptNext (cycles_after before later b)

-- A CHARACTER STAYS UNTIL IT IS TAKEN

abbrev pub granted : Option ℕ → Bool
granted None = true
granted (Some refusal) = false

abbrev pub clock_runs : ClockBoard → Bool
clock_runs b = granted (turned_down Clock (size b.contents) b.registers.s)

-- what a beat hands over
abbrev pub handed_in_beat : Connection → Option ℕ
handed_in_beat x = (reply_to x.rule (status x.port)).character

-- the character that a call made on b brings: the beat of a granted clock may hand one over
abbrev pub brought : Call → ClockBoard → Option ℕ
brought Clock b = cond (clock_runs b) (handed_in_beat (connection (moved b))) None
brought Start b = None
brought (Aim a) b = None
brought (Deposit a w) b = None
brought (Examine a) b = None

-- a granted clock that carries out a word with the INP mark
abbrev pub takes_input : Call → ClockBoard → Bool
takes_input Clock b = clock_runs b && ac_inpr b.registers.sc (opcode b.registers.ir) b.registers
takes_input Start b = false
takes_input (Aim a) b = false
takes_input (Deposit a w) b = false
takes_input (Examine a) b = false

-- none of some calls, made in order from b, is such a clock
abbrev pub NoInputTaken : List Call → ClockBoard → Type 0
NoInputTaken [] b = Unit {0}
NoInputTaken (x ∷ xs) b = (takes_input x b ≡ false) × NoInputTaken xs (on_clocked x b).after

-- From the beat that hands a character over, INPR holds it after every further list of calls in which no clock carries out a
-- word with the INP mark.
abbrev pub CharacterStays : Type 0
CharacterStays =
    (contents : Contents) (rule : Rule) → Proper rule → (before : List Call) (x : Call) (later : List Call) (character : ℕ)
    → let b = after_all on_clocked before (new_clock_board contents rule) in
    brought x b ≡ Some character → NoInputTaken later (on_clocked x b).after
    → (after_all on_clocked (before ++ (x ∷ later)) (new_clock_board contents rule)).registers.port.inpr ≡ character

-- THE INVARIANT

abbrev pub InvariantKept : Type 0
InvariantKept =
    (contents : Contents) (rule : Rule) (calls : List Call) → Sound (after_all on_clocked calls (new_clock_board contents rule)).registers

-- A RUN IS SO MANY CYCLES

-- the sum of the answers
abbrev pub answer : Outcome ℕ → ℕ
answer (answered n) = n
answer (refused refusal) = 0

abbrev pub all_answers : List Made → ℕ
all_answers [] = 0
all_answers (m ∷ ms) = answer m.outcome + all_answers ms

-- a run from t that was granted
pub record CycleByCycle (n : ℕ) (t : CycleBoard) (run : Ran) : Type 0 where
  pub at_most : run.cycles ≤ n
  pub all_unless_stopped : run.cycles < n → run.after.visible.s ≡ false
  pub after : run.after ≡ after_all on_cycled (times run.cycles) t
  pub clocks : run.clocks ≡ all_answers (made on_cycled (times run.cycles) t)

abbrev pub RunIsCycles : Type 0
RunIsCycles = (n : ℕ) (t : CycleBoard) → size t.contents ≡ 4096 → CycleByCycle n t (ran n t)
