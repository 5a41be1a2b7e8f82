-- The beat: after the transfers of a clock the computer shows its line a status, and the line's reply is applied.
use Rattle.std.specs.Prelude.{ℕ, zero, suc, Bool, true, false, ◌||◌, Some, None, Option}
use Rattle.line.specs.declared.status.Status.{Status}
use Rattle.line.specs.declared.status.Reply.{Reply}
use Rattle.line.specs.Rules.{Rule, reply_to, rule_after}
use Rattle.machine.specs.declared.registers.Port.{Port}

-- what the line is shown: FGI, FGO and OUTR
abbrev pub status : Port → Status
status port = record { fgi = port.fgi; fgo = port.fgo; outr = port.outr }

-- FGI + FGO
abbrev pub flagged : Port → Bool
flagged port = port.fgi || port.fgo

-- INPR and FGI after a character, or none, has come
abbrev pub received : Option ℕ → ℕ → ℕ
received None inpr = inpr
received (Some character) inpr = character

abbrev pub arrived : Option ℕ → Bool
arrived None = false
arrived (Some character) = true

-- a reply applied: a character goes into INPR and raises FGI, "printed" raises FGO
abbrev pub applied : Reply → Port → Port
applied reply port = record {
  inpr = received reply.character port.inpr;
  outr = port.outr;
  fgi = port.fgi || arrived reply.character;
  fgo = port.fgo || reply.printed;
}

-- a port, and the rule by which the line at it replies from now on
pub record Connection : Type 0 where
  pub port : Port
  pub rule : Rule

abbrev pub connected : Port → Rule → Connection
connected port rule = record { port = port; rule = rule }

-- one beat, and some
unfoldable pub beat : Connection → Connection
beat x = record {
  port = applied (reply_to x.rule (status x.port)) x.port;
  rule = rule_after x.rule (status x.port);
}

abbrev pub beats : ℕ → Connection → Connection
beats zero x = x
beats (suc n) x = beats n (beat x)
