-- The control gates, line by line as in the textbook's tables (M. Mano, Computer System Architecture, chapter 5): a prime
-- there is `not`, a sum `||`, a product `&&`. In each product the timing signal stands first.
use Rattle.std.specs.Prelude.{ℕ, Bool, cond, not, ◌&&◌, ◌||◌, ◌==◌}
use Rattle.machine.specs.declared.registers.Registers.{Registers}
use Rattle.machine.specs.Words.{bit}
use Rattle.machine.specs.Beat.{flagged}

-- the registers c before the clock; t is SC, and d the opcode in IR
module _ (t d : ℕ) (c : Registers) where
  -- the timing decoder, the operation decoder, and the bits of IR
  abbrev pub T : ℕ → Bool
  T k = t == k

  abbrev pub D : ℕ → Bool
  D k = d == k

  abbrev pub B : ℕ → Bool
  B k = bit k c.ir

  -- register-reference and input-output instructions are carried out at T3
  abbrev pub r : Bool
  r = T 3 && D 7 && not c.i

  abbrev pub p : Bool
  p = T 3 && D 7 && c.i

  -- an operand is read
  abbrev pub reads : Bool
  reads = T 4 && (D 0 || D 1 || D 2 || D 6)

  -- the bus: who drives it; `word` is what the memory shows at AR. Undriven it is zero.
  abbrev pub bus : ℕ → ℕ
  bus word =
      cond (T 4 && D 4 || T 5 && D 5) c.ar
      (cond (T 0 || T 4 && D 5) c.pc
      (cond (T 6 && D 6) c.dr
      (cond (T 4 && D 3 || p && B 10) c.ac
      (cond (T 2 && not c.r) c.ir
      (cond (T 1 && c.r) c.tr
      (cond (T 1 && not c.r || T 3 && not (D 7) && c.i || reads) word 0))))))

  -- the memory
  abbrev pub memory_write : Bool
  memory_write = T 1 && c.r || T 4 && D 3 || T 4 && D 5 || T 6 && D 6

  -- AR
  abbrev pub ar_load : Bool
  ar_load = T 0 && not c.r || T 2 && not c.r || T 3 && not (D 7) && c.i

  abbrev pub ar_clear : Bool
  ar_clear = T 0 && c.r

  abbrev pub ar_increment : Bool
  ar_increment = T 4 && D 5

  -- PC
  abbrev pub pc_load : Bool
  pc_load = T 4 && D 4 || T 5 && D 5

  abbrev pub pc_clear : Bool
  pc_clear = T 1 && c.r

  -- the next instruction is skipped: ISZ, then SPA, SNA, SZA and SZE, then SKI and SKO
  abbrev pub skip : Bool
  skip =
      T 6 && D 6 && c.dr == 0
      || r && (B 4 && not (bit 15 c.ac) || B 3 && bit 15 c.ac || B 2 && c.ac == 0 || B 1 && not c.e)
      || p && (B 9 && c.port.fgi || B 8 && c.port.fgo)

  abbrev pub pc_increment : Bool → Bool
  pc_increment skips = T 1 && not c.r || T 2 && c.r || skips

  -- DR
  abbrev pub dr_load : Bool
  dr_load = reads

  abbrev pub dr_increment : Bool
  dr_increment = T 5 && D 6

  -- IR, TR and I
  abbrev pub ir_load : Bool
  ir_load = T 1 && not c.r

  abbrev pub tr_load : Bool
  tr_load = T 0 && c.r

  abbrev pub i_load : Bool
  i_load = T 2 && not c.r

  -- AC: its sources, and CLA and INC
  abbrev pub ac_and : Bool
  ac_and = T 5 && D 0

  abbrev pub ac_add : Bool
  ac_add = T 5 && D 1

  abbrev pub ac_dr : Bool
  ac_dr = T 5 && D 2

  abbrev pub ac_inpr : Bool
  ac_inpr = p && B 11

  abbrev pub ac_complement : Bool
  ac_complement = r && B 9

  abbrev pub ac_right : Bool
  ac_right = r && B 7

  abbrev pub ac_left : Bool
  ac_left = r && B 6

  abbrev pub ac_clear : Bool
  ac_clear = r && B 11

  abbrev pub ac_increment : Bool
  ac_increment = r && B 5

  -- E: CLE and CME; it also takes part in the sum and in both circulations
  abbrev pub e_clear : Bool
  e_clear = r && B 10

  abbrev pub e_complement : Bool
  e_complement = r && B 8

  -- IEN: ION, IOF and the interrupt cycle
  abbrev pub ien_raise : Bool
  ien_raise = p && B 7

  abbrev pub ien_lower : Bool
  ien_lower = p && B 6 || T 2 && c.r

  -- R
  abbrev pub r_raise : Bool
  r_raise = not (T 0) && not (T 1) && not (T 2) && c.ien && flagged c.port

  abbrev pub r_lower : Bool
  r_lower = T 2 && c.r

  -- OUTR takes a character, which lowers FGO; INPR is taken, which lowers FGI; HLT lowers S
  abbrev pub outr_load : Bool
  outr_load = p && B 10

  abbrev pub fgo_lower : Bool
  fgo_lower = p && B 10

  abbrev pub fgi_lower : Bool
  fgi_lower = p && B 11

  abbrev pub s_lower : Bool
  s_lower = r && B 0

  -- SC, which counts on otherwise: its clearing ends a cycle
  abbrev pub sc_clear : Bool
  sc_clear = T 2 && c.r || r || p || T 4 && (D 3 || D 4) || T 5 && (D 0 || D 1 || D 2 || D 5) || T 6 && D 6
