pub mod Streams
pub mod Source
pub mod Sink
pub mod ByteSource
pub mod Buffered
pub mod ByteSink
pub mod Laws
