mod Heaps
