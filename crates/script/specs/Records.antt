-- How a record stands in bytes. It begins with its whole length and its kind, two bytes each; the bytes from place 4
-- up to its length are its body. All numbers are little-endian.
-- `two bs i`, `four bs i`, `eight bs i`: the number in that many bytes of `bs` from place i.
-- `record_at bs`: the record at the front of `bs`, or what is wrong with it. `rest_at bs`: the bytes after it.
use Rattle.std.specs.Prelude.{ℕ, ◌+◌, ◌-◌, ◌*◌, cond, ◌||◌, List, length, take, drop, Ok, Err, Result, ◌==◌, nat_lt, slice_index}
use Rattle.script.specs.declared.fault.Fault.{Fault}
use Rattle.script.specs.declared.fault.Fault.TheVariants.{CutShort, UnknownKind}
use Rattle.script.specs.declared.record.Kind.{Kind}
use Rattle.script.specs.declared.record.Kind.TheVariants.{LayTickets, LayNotes, PostTicket, PostNote, GrantLane, BeginCollect, GrantCollector, Settle, Drain, Report}
use Rattle.script.specs.declared.record.Record.{Record}

abbrev pub two : List ℕ → ℕ → ℕ
two bs i = slice_index bs i + slice_index bs (i + 1) * 256

abbrev pub four : List ℕ → ℕ → ℕ
four bs i = two bs i + slice_index bs (i + 2) * 65536 + slice_index bs (i + 3) * 16777216

abbrev pub eight : List ℕ → ℕ → ℕ
eight bs i =
    four bs i + slice_index bs (i + 4) * 4294967296 + slice_index bs (i + 5) * 1099511627776 + slice_index bs (i + 6) * 281474976710656
    + slice_index bs (i + 7) * 72057594037927936

-- the kind that a number stands for
abbrev pub kind_of : ℕ → Result Kind Fault
kind_of n =
    cond (n == 1) (Ok LayTickets)
    (cond (n == 2) (Ok LayNotes)
    (cond (n == 3) (Ok PostTicket)
    (cond (n == 4) (Ok PostNote)
    (cond (n == 5) (Ok GrantLane)
    (cond (n == 6) (Ok BeginCollect)
    (cond (n == 7) (Ok GrantCollector)
    (cond (n == 8) (Ok Settle)
    (cond (n == 9) (Ok Drain)
    (cond (n == 10) (Ok Report) (Err UnknownKind))))))))))

-- the number that stands for a kind
abbrev pub kind_number : Kind → ℕ
kind_number LayTickets = 1
kind_number LayNotes = 2
kind_number PostTicket = 3
kind_number PostNote = 4
kind_number GrantLane = 5
kind_number BeginCollect = 6
kind_number GrantCollector = 7
kind_number Settle = 8
kind_number Drain = 9
kind_number Report = 10

-- what is said of a record by its kind, if its number stands for one
abbrev pub by_kind : {X : Type 0} → (Kind → Result X Fault) → Record → Result X Fault
by_kind say r = elim (kind_of r.kind) [ Ok k ↦ say k | Err f ↦ Err f ]

-- a record of kind k whose other numbers are 0
abbrev pub blank : Kind → Record
blank k =
    record {
      kind = kind_number k;
      lane = 0;
      lanes = 0;
      cells = 0;
      start = 0;
      frame = 0;
      place = 0;
      length = 0;
      tag = 0;
      value = 0;
      times = 0;
    }

-- the records with these bodies
abbrev pub laying : Kind → List ℕ → Record
laying k bs = record (blank k) { lanes = two bs 0; cells = two bs 2; start = eight bs 4 }

abbrev pub ticket_post : List ℕ → Record
ticket_post bs =
    record (blank PostTicket) { lane = two bs 0; frame = four bs 2; place = four bs 6; length = four bs 10 }

abbrev pub note_post : List ℕ → Record
note_post bs = record (blank PostNote) { lane = two bs 0; tag = two bs 2; value = four bs 4 }

abbrev pub lane_grant : List ℕ → Record
lane_grant bs = record (blank GrantLane) { lane = two bs 0; times = two bs 2 }

abbrev pub collector_grant : List ℕ → Record
collector_grant bs = record (blank GrantCollector) { times = two bs 0 }

-- a record whose kind has bodies of n bytes, if `bs` has so many
abbrev pub if_long : ℕ → List ℕ → Record → Result Record Fault
if_long n bs r = cond (length bs == n) (Ok r) (Err CutShort)

-- the record of kind k with the body bs
abbrev pub body_of : Kind → List ℕ → Result Record Fault
body_of LayTickets bs = if_long 12 bs (laying LayTickets bs)
body_of LayNotes bs = if_long 12 bs (laying LayNotes bs)
body_of PostTicket bs = if_long 14 bs (ticket_post bs)
body_of PostNote bs = if_long 8 bs (note_post bs)
body_of GrantLane bs = if_long 4 bs (lane_grant bs)
body_of BeginCollect bs = if_long 0 bs (blank BeginCollect)
body_of GrantCollector bs = if_long 2 bs (collector_grant bs)
body_of Settle bs = if_long 0 bs (blank Settle)
body_of Drain bs = if_long 0 bs (blank Drain)
body_of Report bs = if_long 0 bs (blank Report)

-- the record whose kind has the number n, with the body bs
abbrev pub body_at : ℕ → List ℕ → Result Record Fault
body_at n bs = elim (kind_of n) [ Ok k ↦ body_of k bs | Err f ↦ Err f ]

abbrev pub record_at : List ℕ → Result Record Fault
record_at bs =
    cond (nat_lt (length bs) 4 || (nat_lt (two bs 0) 4 || nat_lt (length bs) (two bs 0))) (Err CutShort)
    (body_at (two bs 2) (take (two bs 0 - 4) (drop 4 bs)))

abbrev pub rest_at : List ℕ → List ℕ
rest_at bs = drop (two bs 0) bs
