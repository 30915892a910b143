-- A collect, grant by grant: which access the collector at its stage makes, and what it does next once it has the word read.
--
-- kept         the smallest stamp that the scan saw so far, of equal ones the first, and its lane; the empty mark while none
-- heads        for each lane the cell that is freed next, as the crew keeps it
-- seen, fresh  what the slot held, and what it is to hold: the stamp of the lane's oldest frame, or the empty mark
use Rattle.std.specs.Prelude.{ℕ, ◌+◌, ◌%◌, Bool, true, false, cond, List, ◌==◌, nat_lt, slice_index, slice_set}
use Rattle.boards.specs.Words.{empty_word}
use Rattle.line.specs.declared.access.Access.{Access}
use Rattle.line.specs.declared.access.Access.TheVariants.{Nothing, Load, Store, Swap, CopyTray}
use Rattle.line.specs.declared.access.Address.TheVariants.{Slot, Head, Tail, CellStamp}
use Rattle.line.specs.declared.access.Place.TheVariants.{CollectorsHand, Cell}
use Rattle.line.specs.declared.access.Shape.{Shape}
use Rattle.line.specs.declared.answer.CollectorAnswer.{CollectorAnswer}
use Rattle.line.specs.declared.answer.CollectorAnswer.TheVariants.{On, Ended as EndsNow}
use Rattle.line.specs.declared.collector.CollectNext.{CollectNext}
use Rattle.line.specs.declared.collector.CollectNext.TheVariants.{Goes, EndsEmpty, EndsDelivered}
use Rattle.line.specs.declared.collector.CollectStage.{CollectStage}
use Rattle.line.specs.declared.collector.CollectStage.TheVariants.{Idle, ScanFirst, ScanSecond, Fetch, Free, SeeSlot, SeeTail, SeeFront, RefreshSlot, Ended}
use Rattle.line.specs.declared.collector.Collected.TheVariants.{Empty, Delivered}
use Rattle.line.specs.declared.collector.Collector.{Collector}
use Rattle.line.specs.declared.collector.Kept.{Kept}
use Rattle.line.specs.declared.lane.Attempt.TheVariants.{First, Second}
use Rattle.line.specs.Post.{one_more}

abbrev pub kept : ℕ → ℕ → Kept
kept lane stamp = record { lane = lane; stamp = stamp }

abbrev pub head_of : List ℕ → ℕ → ℕ
head_of heads lane = slice_index heads lane

-- the one access of the collector at its stage
abbrev pub collector_access : Shape → List ℕ → CollectStage → Access
collector_access s heads Idle = Nothing
collector_access s heads (ScanFirst i best) = Load (Slot i)
collector_access s heads (ScanSecond i bound best) = Load (Slot i)
collector_access s heads (Fetch best) = CopyTray (Cell best.lane (head_of heads best.lane)) CollectorsHand
collector_access s heads (Free best) = Store (Head best.lane) ((head_of heads best.lane + 1) % s.cells)
collector_access s heads (SeeSlot attempt best) = Load (Slot best.lane)
collector_access s heads (SeeTail attempt best seen) = Load (Tail best.lane)
collector_access s heads (SeeFront attempt best seen) = Load (CellStamp best.lane (head_of heads best.lane))
collector_access s heads (RefreshSlot attempt best seen fresh) = Swap (Slot best.lane) seen fresh
collector_access s heads (Ended how) = Nothing

-- a smaller stamp in slot i replaces the one kept
abbrev pub better : ℕ → ℕ → Kept → Kept
better i w best = cond (nat_lt w best.stamp) (kept i w) best

-- after the slot i: the rest of the first scan; or the collect ends as empty; or the lanes below the one kept are scanned again
abbrev pub after_first : ℕ → ℕ → Kept → CollectNext
after_first n i best =
    cond (nat_lt (i + 1) n) (Goes (ScanFirst (i + 1) best))
    (cond (best.stamp == empty_word) EndsEmpty
    (cond (best.lane == 0) (Goes (Fetch best)) (Goes (ScanSecond 0 best.lane best))))

abbrev pub after_second : ℕ → ℕ → Kept → CollectNext
after_second bound i best = cond (nat_lt (i + 1) bound) (Goes (ScanSecond (i + 1) bound best)) (Goes (Fetch best))

-- the stage and the word that the grant read decide together what comes next
abbrev pub collector_next : Shape → List ℕ → CollectStage → ℕ → CollectNext
collector_next s heads Idle w = Goes Idle
collector_next s heads (ScanFirst i best) w = after_first s.lanes i (better i w best)
collector_next s heads (ScanSecond i bound best) w = after_second bound i (better i w best)
collector_next s heads (Fetch best) w = Goes (Free best)
collector_next s heads (Free best) w = Goes (SeeSlot First best)
collector_next s heads (SeeSlot attempt best) w = Goes (SeeTail attempt best w)
collector_next s heads (SeeTail attempt best seen) w =
    cond (w % s.cells == head_of heads best.lane) (Goes (RefreshSlot attempt best seen empty_word)) (Goes (SeeFront attempt best seen))
collector_next s heads (SeeFront attempt best seen) w = Goes (RefreshSlot attempt best seen w)
collector_next s heads (RefreshSlot First best seen fresh) w = cond (w == 0) (Goes (SeeSlot Second best)) (EndsDelivered best)
collector_next s heads (RefreshSlot Second best seen fresh) w = EndsDelivered best
collector_next s heads (Ended how) w = Goes (Ended how)

-- freeing moves the head copy of the lane kept; nothing else moves one
abbrev pub heads_after : Shape → List ℕ → CollectStage → List ℕ
heads_after s heads Idle = heads
heads_after s heads (ScanFirst i best) = heads
heads_after s heads (ScanSecond i bound best) = heads
heads_after s heads (Fetch best) = heads
heads_after s heads (Free best) = slice_set heads best.lane ((head_of heads best.lane + 1) % s.cells)
heads_after s heads (SeeSlot attempt best) = heads
heads_after s heads (SeeTail attempt best seen) = heads
heads_after s heads (SeeFront attempt best seen) = heads
heads_after s heads (RefreshSlot attempt best seen fresh) = heads
heads_after s heads (Ended how) = heads

abbrev pub collector : CollectStage → ℕ → Collector
collector stage grants = record { stage = stage; grants = grants }

-- the collector after a grant, once counted
abbrev pub collector_at : ℕ → CollectNext → Collector
collector_at grants (Goes stage) = collector stage grants
collector_at grants EndsEmpty = collector (Ended (Empty grants)) 0
collector_at grants (EndsDelivered best) = collector (Ended (Delivered best.lane best.stamp grants)) 0

-- what the grant answers
abbrev pub collect_answer_at : ℕ → CollectNext → CollectorAnswer
collect_answer_at grants (Goes stage) = On
collect_answer_at grants EndsEmpty = EndsNow (Empty grants)
collect_answer_at grants (EndsDelivered best) = EndsNow (Delivered best.lane best.stamp grants)

-- only a collect that ends as delivered counts
abbrev pub delivered_after : ℕ → CollectNext → ℕ
delivered_after total (Goes stage) = total
delivered_after total EndsEmpty = total
delivered_after total (EndsDelivered best) = one_more total

-- a collect that has just begun
abbrev pub begun_collector : Collector
begun_collector = collector (ScanFirst 0 (kept 0 empty_word)) 0

-- under way: begun and not ended
abbrev pub under_way : CollectStage → Bool
under_way Idle = false
under_way (ScanFirst i best) = true
under_way (ScanSecond i bound best) = true
under_way (Fetch best) = true
under_way (Free best) = true
under_way (SeeSlot attempt best) = true
under_way (SeeTail attempt best seen) = true
under_way (SeeFront attempt best seen) = true
under_way (RefreshSlot attempt best seen fresh) = true
under_way (Ended how) = false

-- begun: under way, or ended and not settled
abbrev pub begun : CollectStage → Bool
begun Idle = false
begun (ScanFirst i best) = true
begun (ScanSecond i bound best) = true
begun (Fetch best) = true
begun (Free best) = true
begun (SeeSlot attempt best) = true
begun (SeeTail attempt best seen) = true
begun (SeeFront attempt best seen) = true
begun (RefreshSlot attempt best seen fresh) = true
begun (Ended how) = true
