-- One token keeps the recording; each seat's token has the entries that the seat owns.
use Rattle.std.specs.Prelude.{◌≡◌, ℕ, ◌+◌, ◌<◌, List, [], ◌∷◌, ◌++◌, length, true, false}
use mathlib.Core.Option.{some}
use lib.ListN.{get_elem?}
use Rattle.atomic_table.specs.Seated.{TableId}
use Rattle.atomic_table.specs.Table.{State, Me, Step}
use Rattle.atomic_table.specs.declared.shared.Seat.{Seat}
use Rattle.record_lines.specs.declared.entry.Entry.{Entry}
use Rattle.floor.specs.declared.tokens.TokenView.{TokenView}
use Rattle.floor.specs.Histories.{history}

-- the keeper of a recording, with as many seats dealt
abbrev pub keeper : List Entry → List ℕ → ℕ → TokenView
keeper es os n = record { keeps = true; entries = es; owners = os; next = n; sits = false; number = 0; made = [] }

-- a seat of this number, with these receipts
abbrev pub sitting : ℕ → List (ℕ × Entry) → TokenView
sitting k made = record { keeps = false; entries = []; owners = []; next = 0; sits = true; number = k; made = made }

-- a token that knows nothing
abbrev pub idle : TokenView
idle = record { keeps = false; entries = []; owners = []; next = 0; sits = false; number = 0; made = [] }

-- who keeps knows the recording; who sits has what its number owns, and no other has its number
abbrev pub FitsRule : ℕ → (ℕ → ℕ) → List Entry → List ℕ → ℕ → ℕ → TokenView → Type 0
FitsRule by place es os n id v =
    (v.keeps ≡ true → (id ≡ by) × (v.entries ≡ es) × (v.owners ≡ os) × (v.next ≡ n))
    × (v.sits ≡ true → (id ≡ place v.number) × (v.number < n) × (v.made ≡ history v.number es os))

-- the rule: there are a recording, its keeper, so many seats, and a place for each number, to which each token fits
pub record Fitting (s : State Entry TokenView) : Type 0 where
  pub by : ℕ
  pub place : ℕ → ℕ
  pub es : List Entry
  pub os : List ℕ
  pub n : ℕ
  pub even : length os ≡ length es
  pub fits : (id : ℕ) (v : TokenView) → get_elem? s.views id ≡ some v → FitsRule by place es os n id v

-- the keeper with a seat in its hands
abbrev pub seated : TokenView → TokenView → TokenView
seated v w = record { keeps = v.keeps; entries = v.entries; owners = v.owners; next = v.next; sits = w.sits; number = w.number; made = w.made }

-- the keeper once it has let the seat go
abbrev pub stood : TokenView → TokenView
stood v = keeper v.entries v.owners v.next

-- the seat that it let go
abbrev pub risen : TokenView → TokenView
risen v = sitting v.number v.made

-- the keeper once it has dealt one more seat
abbrev pub dealt : TokenView → TokenView
dealt v = keeper v.entries v.owners (v.next + 1)

-- the seat that it dealt, which has no receipts
abbrev pub newcomer : TokenView → TokenView
newcomer v = sitting v.next []

-- one entry more, of the seat in its hands
abbrev pub grown : TokenView → Entry → TokenView
grown v e =
    record {
      keeps = true;
      entries = v.entries ++ e ∷ [];
      owners = v.owners ++ v.number ∷ [];
      next = v.next;
      sits = true;
      number = v.number;
      made = v.made ++ (length v.entries, e) ∷ [];
    }

-- a step that adds the entry that it is told, as one of the seat in the keeper's hands, and tells that its receipts were its history
abbrev pub Adds : Step Entry → Me Entry TokenView → ℕ → Me Entry TokenView → Type 0
Adds s me k new = ((e : Entry) → s.said ≡ some e → new.0 ≡ grown me.0 e) × (new.1 ≡ me.1)
    × (me.0.made ≡ history me.0.number me.0.entries me.0.owners)

-- a step that changes nothing, and tells that the receipts of the seat in the keeper's hands are its history
abbrev pub Compares : Step Entry → Me Entry TokenView → ℕ → Me Entry TokenView → Type 0
Compares s me k new = (new ≡ me) × (me.0.made ≡ history me.0.number me.0.entries me.0.owners)

-- a token of a word's table
abbrev pub Token : Type 0
Token = Seat Entry TokenView

-- two tokens of a table of one word keep a recording, and sit for a seat
pub record AreTied (table_id : TableId) (hall seat : Token) : Type 0 where
  pub table : hall.table_id ≡ table_id
  pub one : table_id.words ≡ 1
  pub keeps : hall.me ≡ (keeper hall.me.0.entries hall.me.0.owners hall.me.0.next, [])
  pub same : seat.table_id ≡ table_id
  pub sits : seat.me ≡ (sitting seat.me.0.number seat.me.0.made, [])

-- a token of a table of one word keeps a recording without entries
pub record IsDealer (table_id : TableId) (hall : Token) : Type 0 where
  pub table : hall.table_id ≡ table_id
  pub one : table_id.words ≡ 1
  pub keeps : hall.me ≡ (keeper [] [] hall.me.0.next, [])

-- one more seat is dealt of it
abbrev pub HasDealt : Token → Token → Type 0
HasDealt old new = (new.me ≡ (keeper [] [] (old.me.0.next + 1), [])) × (new.table_id ≡ old.table_id)

-- which is the next one, and has no receipts
abbrev pub IsNewlyDealt : Token → Token → Type 0
IsNewlyDealt hall seat = (seat.me ≡ (sitting hall.me.0.next [], [])) × (seat.table_id ≡ hall.table_id)

-- what the seat has is what it owns of the recording
abbrev pub TellsHistory : Token → Token → Type 0
TellsHistory hall seat = seat.me.0.made ≡ history seat.me.0.number hall.me.0.entries hall.me.0.owners

-- the recording has one entry more, which the seat owns and has
pub record AddsEntry (hall seat : Token) (entry : Entry) (hall' seat' : Token) : Type 0 where
  pub hall_has : hall'.me ≡ (keeper (hall.me.0.entries ++ entry ∷ []) (hall.me.0.owners ++ seat.me.0.number ∷ []) hall.me.0.next, [])
  pub seat_has : seat'.me ≡ (sitting seat.me.0.number (seat.me.0.made ++ (length hall.me.0.entries, entry) ∷ []), [])
  pub table : (hall'.table_id ≡ hall.table_id) × (seat'.table_id ≡ seat.table_id)

-- a token has stayed the same
abbrev pub IsSameToken : Token → Token → Type 0
IsSameToken old new = (new.me ≡ old.me) × (new.table_id ≡ old.table_id)
