-- The items of a tape (document 01, "The tape"): its words, what they say, and the list of items up to the end. Definitions only.
use Rattle.std.specs.Prelude.{◌≡◌, ℕ, zero, suc, ◌+◌, ◌-◌, ◌*◌, ◌/◌, ◌%◌, Bool, true, false, cond, List, [], ◌∷◌, leb, ltb, eqb, length, get_or, Option, Some, None, Result, Ok, Err}
use Rattle.config.specs.Config.{class_of}
use Rattle.config.specs.declared.config.Priority.{Priority}
use Rattle.config.specs.declared.config.Priority.TheVariants.{P0, P1, P2}
use Rattle.config.specs.declared.refusal.Refusal.{Refusal}
use Rattle.queue.specs.Entries.{key_of_hashes}
use Rattle.queue.specs.Pool.{piece}
use Rattle.queue.specs.declared.entry.InstanceKey.{InstanceKey}
use Rattle.tape.specs.declared.item.Item.{Item}
use Rattle.tape.specs.declared.item.Items.{Items}
use Rattle.tape.specs.declared.item.Placed.{Placed}
use Rattle.tape.specs.declared.item.Item.TheVariants.{End, Broken, Advance, Register, Eagain, Tos, Nacks, Rtt, Tick, HandIn, Send, SetRate}

-- ---- words

-- "A last word short of 4 bytes counts as a word": the words of a tape of n bytes
abbrev pub words_of : ℕ → ℕ
words_of n = (n + 3) / 4

-- ".. and is cut short": the words that can be used
abbrev pub whole_words : List ℕ → ℕ
whole_words bytes = length bytes / 4

-- those from word k on
abbrev pub words_from : List ℕ → ℕ → ℕ
words_from bytes k = whole_words bytes - k

-- "Little-endian 32-bit words"
abbrev pub little_endian : ℕ → ℕ → ℕ → ℕ → ℕ
little_endian a b c d = a + 256 * b + 65536 * c + 16777216 * d

-- the number that the four bytes from a place on make
abbrev pub four_bytes : List ℕ → ℕ → ℕ
four_bytes bytes at =
    little_endian (get_or bytes at 0) (get_or bytes (at + 1) 0) (get_or bytes (at + 2) 0) (get_or bytes (at + 3) 0)

-- the word of an index; 0 where it is not whole
unfoldable pub word_at : List ℕ → ℕ → ℕ
word_at bytes k = cond (ltb k (whole_words bytes)) (four_bytes bytes (4 * k)) 0

-- "the top four bits are the kind, the rest the value"
abbrev pub kind_of : ℕ → ℕ
kind_of word = word / 268435456

abbrev pub value_of : ℕ → ℕ
value_of word = word % 268435456

-- ---- one item; k is the index of its first word, v that word's value

-- "class (0 P0 urgent holds, 1 P1 check-outs, 2 P2 rack readings)"; 5: unknown class, which 3 is. The item of a class, where there is one
abbrev pub classed : Result Priority Refusal → (Priority → Item) → Item
classed (Ok c) item = item c
classed (Err e) item = Broken

-- 5: "a tape that breaks off"; an item of m words is cut short where fewer are whole from word k on
unfoldable pub whole : List ℕ → ℕ → ℕ → Item → Item
whole bytes k m item = cond (leb m (words_from bytes k)) item Broken

-- "2 register: bits 0-1 class .., above them the id"; 5: unknown class
unfoldable pub register_of : ℕ → Item
register_of v = classed (class_of (v % 4)) (λ c. Register c (v / 4))

-- "3 RTT, peer in bits 8-27, f32 bits in the next word"
abbrev pub rtt_of : List ℕ → ℕ → ℕ → Item
rtt_of bytes k v = whole bytes k 2 (Rtt (v / 256) (word_at bytes (k + 1)))

-- "3 signal, bits 0-1: 0 EAGAIN; 1 TOS byte in bits 8-15; 2 NACKs, count in bits 8-27; 3 RTT"
unfoldable pub signal_of : List ℕ → ℕ → ℕ → Item
signal_of bytes k v =
    cond (eqb (v % 4) 0) Eagain
    (cond (eqb (v % 4) 1) (Tos (v / 256 % 256)) (cond (eqb (v % 4) 2) (Nacks (v / 256)) (rtt_of bytes k v)))

-- "for P2 four key words"
abbrev pub key_words : Priority → ℕ
key_words P0 = 0
key_words P1 = 0
key_words P2 = 4

-- the words of a hand-in: the first, the key's, "then the bytes, padded to a word"
abbrev pub hand_in_words : Priority → ℕ → ℕ
hand_in_words c n = 1 + key_words c + (n + 3) / 4

-- a hand-in of n bytes of a class, where all its words are there
abbrev pub hand_in_by : List ℕ → ℕ → ℕ → ℕ → Priority → Item
hand_in_by bytes k pacer n c = whole bytes k (hand_in_words c n) (HandIn pacer c n)

-- "5 hand-in: bits 0-10 length, 11-12 class, 13-14 pacer"; 5: unknown class
unfoldable pub hand_in_of : List ℕ → ℕ → ℕ → Item
hand_in_of bytes k v = classed (class_of (v / 2048 % 4)) (hand_in_by bytes k (v / 8192 % 4) (v % 2048))

-- an item by its kind: "0 end; .. 1 advance by value microseconds ..; 2 register ..; 3 signal ..; 4 tick; 5 hand-in ..;
-- 6 send attempt, pacer in bits 0-1; 7 set rate to the value"; 5: unknown word kind
unfoldable pub item_by : List ℕ → ℕ → ℕ → ℕ → Item
item_by bytes k kind v =
    cond (eqb kind 0) End
    (cond (eqb kind 1) (Advance v)
    (cond (eqb kind 2) (register_of v)
    (cond (eqb kind 3) (signal_of bytes k v)
    (cond (eqb kind 4) Tick
    (cond (eqb kind 5) (hand_in_of bytes k v) (cond (eqb kind 6) (Send (v % 4)) (cond (eqb kind 7) (SetRate v) Broken)))))))

-- the item whose first word is this one
abbrev pub item_of : List ℕ → ℕ → ℕ → Item
item_of bytes k word = item_by bytes k (kind_of word) (value_of word)

-- the item whose first word is word k; broken where that word is not whole, which the missing end is too
unfoldable pub item_at : List ℕ → ℕ → Item
item_at bytes k = whole bytes k 1 (item_of bytes k (word_at bytes k))

-- the words that belong to an item
unfoldable pub takes : Item → ℕ
takes End = 1
takes Broken = 1
takes (Advance v) = 1
takes (Register c id) = 1
takes Eagain = 1
takes (Tos tos) = 1
takes (Nacks count) = 1
takes (Rtt peer bits) = 2
takes Tick = 1
takes (HandIn pacer c n) = hand_in_words c n
takes (Send pacer) = 1
takes (SetRate rate) = 1

-- ---- a hand-in's key and bytes

-- "low half first"
abbrev pub hash_of : ℕ → ℕ → ℕ
hash_of low high = low + 4294967296 * high

-- "for P2 four key words (topic hash, key hash, low half first)"; the others have no key
unfoldable pub key_at : List ℕ → ℕ → Priority → InstanceKey
key_at bytes k P0 = key_of_hashes 0 0
key_at bytes k P1 = key_of_hashes 0 0
key_at bytes k P2 =
    key_of_hashes (hash_of (word_at bytes (k + 1)) (word_at bytes (k + 2))) (hash_of (word_at bytes (k + 3)) (word_at bytes (k + 4)))

-- where the bytes begin: behind the first word and the key's
abbrev pub body_start : ℕ → Priority → ℕ
body_start k c = 4 * (k + 1 + key_words c)

-- the n bytes from there on, as far as the tape has them
abbrev pub body_at : List ℕ → ℕ → Priority → ℕ → List ℕ
body_at bytes k c n = piece bytes (body_start k c) n

-- ---- the list of items

-- an item and the index of its first word
abbrev pub placed : ℕ → Item → Placed
placed k item = record { index = k; item = item }

-- the end itself is no item of the list
unfoldable pub is_end : Item → Bool
is_end End = true
is_end Broken = false
is_end (Advance v) = false
is_end (Register c id) = false
is_end Eagain = false
is_end (Tos tos) = false
is_end (Nacks count) = false
is_end (Rtt peer bits) = false
is_end Tick = false
is_end (HandIn pacer c n) = false
is_end (Send pacer) = false
is_end (SetRate rate) = false

-- "0 end; nothing after it is read", and "It stops after 5"
unfoldable pub stops : Item → Bool
stops End = true
stops Broken = true
stops (Advance v) = false
stops (Register c id) = false
stops Eagain = false
stops (Tos tos) = false
stops (Nacks count) = false
stops (Rtt peer bits) = false
stops Tick = false
stops (HandIn pacer c n) = false
stops (Send pacer) = false
stops (SetRate rate) = false

-- the list from an item on that stops the tape: that item alone, or nothing where it is the end
abbrev pub last_of : ℕ → Item → List Placed
last_of k item = cond (is_end item) [] (placed k item ∷ [])

-- the list from any item on, with those behind it where it does not stop the tape
abbrev pub listed : ℕ → Item → List Placed → List Placed
listed k item rest = cond (stops item) (last_of k item) (placed k item ∷ rest)

-- with so many words left, the next being word k, of which so many belong to the last item and are passed over;
-- "the missing end" has the number of words as index
unfoldable pub items_from : ℕ → List ℕ → ℕ → ℕ → List Placed
items_from zero bytes k pass = placed k Broken ∷ []
items_from (suc left) bytes k zero =
    listed k (item_at bytes k) (items_from left bytes (suc k) (takes (item_at bytes k) - 1))
items_from (suc left) bytes k (suc pass) = items_from left bytes (suc k) pass

-- all items of a tape
unfoldable pub items_of : List ℕ → List Placed
items_of bytes = items_from (words_of (length bytes)) bytes 0 0

-- an item stands at its index
abbrev pub Stands : List ℕ → Placed → Type 0
Stands bytes x = item_at bytes x.index ≡ x.item

-- the items from word k on
abbrev pub items_at : List ℕ → ℕ → List Placed
items_at bytes k = items_from (words_of (length bytes) - k) bytes k 0

-- the items that are still to come; none where the tape has stopped
abbrev pub items_on : List ℕ → Option ℕ → List Placed
items_on bytes None = []
items_on bytes (Some k) = items_at bytes k

-- those that the program's iterator has still to give
abbrev pub items_left : Items → List Placed
items_left s = items_on s.tape.now s.next
