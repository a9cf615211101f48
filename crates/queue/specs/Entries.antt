-- What a queue keeps of a record beside its bytes. Definitions only.
use Rattle.std.specs.Prelude.{ℕ, Bool, ◌&&◌, eqb}
use Rattle.queue.specs.declared.entry.Entry.{Entry}
use Rattle.queue.specs.declared.entry.InstanceKey.{InstanceKey}
use Rattle.queue.specs.declared.entry.KeyedEntry.{KeyedEntry}

abbrev pub key_of_hashes : ℕ → ℕ → InstanceKey
key_of_hashes topic key = record { topic_hash = topic; key_hash = key }

abbrev pub no_key : InstanceKey
no_key = key_of_hashes 0 0

abbrev pub entry_of : ℕ → ℕ → Entry
entry_of sequence length = record { sequence = sequence; length = length }

-- what a slot holds before its first record
abbrev pub no_entry : Entry
no_entry = entry_of 0 0

abbrev pub keyed_entry : Entry → InstanceKey → KeyedEntry
keyed_entry e key = record { entry = e; key = key }

abbrev pub no_keyed_entry : KeyedEntry
no_keyed_entry = keyed_entry no_entry no_key

abbrev pub same_key : InstanceKey → InstanceKey → Bool
same_key x y = eqb x.topic_hash y.topic_hash && eqb x.key_hash y.key_hash

abbrev pub has_key : InstanceKey → KeyedEntry → Bool
has_key key e = same_key e.key key
