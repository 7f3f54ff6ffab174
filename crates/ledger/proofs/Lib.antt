pub mod Ledger
pub mod LedgerCalls
pub mod LedgerLimits
pub mod LedgerEnds
pub mod LedgerDigests
pub mod LedgerParts
