-- Laws of size, fetched and stored.
use Rattle.std.proofs.Common.{◌≡◌, ℕ, ◌<◌, ◌≤◌, sym, ap, subst, length-set, get_or-set_other, get_or-set_same}
use Rattle.std.proofs.lemmas.List.{set_past}
use Rattle.memory.specs.Contents.{Contents, holding, size, fetched, stored, Replaced}

pub size-stored : (c : Contents) (address word : ℕ) → size (stored c address word) ≡ size c
size-stored c address word = length-set c.words address word

pub fetched-here : (c : Contents) (address word : ℕ) → address < size c → fetched (stored c address word) address ≡ word
fetched-here c address word h = get_or-set_same c.words address word 0 h

pub fetched-elsewhere : (c : Contents) (address word other : ℕ) → (other ≡ address → ⊥) → fetched (stored c address word) other ≡ fetched c other
fetched-elsewhere c address word other h = get_or-set_other c.words address other word 0 h

pub stored_past : (c : Contents) (address word : ℕ) → size c ≤ address → stored c address word ≡ c
stored_past c address word h = ap holding (set_past c.words address word h)

pub stored-replaces : (c : Contents) (address word : ℕ) → Replaced c address word (stored c address word)
stored-replaces c address word = record {
  sized = size-stored c address word;
  here = fetched-here c address word;
  elsewhere = fetched-elsewhere c address word;
  past = stored_past c address word;
}

pub replaces : (before after : Contents) (address word : ℕ) → after ≡ stored before address word → Replaced before address word after
replaces before after address word e = subst (λ (c : Contents). Replaced before address word c) (sym e) (stored-replaces before address word)
